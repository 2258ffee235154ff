-- Blocks in rising order of their labels: there is one such list if no label occurs twice.
use Rattle.std.proofs.Common.{◌≡◌, ◌≢◌, refl, ap, sym, ◌∙◌, subst, ℕ, zero, suc, ◌+◌, ◌<◌, ◌≤◌, Bool, true, false, true≢false, cond, not, ◌&&◌, eqb, eq-eqb, List, [], ◌∷◌, length, map, get_or, inl, inr, arith}
use Rattle.std.specs.Prelude.{nat_le, slice_index_or, Contains, IsPermutation}
use Rattle.std.specs.List.{AllByRecursion, IsDistinct, list_any}
use Rattle.std.specs.List.Sorted.{IsNonDecreasingBy}
use Rattle.std.proofs.lemmas.List.Sorted.{Contains-permutation, IsPermutation-map, IsPermutation-sym}
use Rattle.std.proofs.lemmas.Map.Keys.{IsDistinct-IsPermutation}
use Rattle.std.proofs.lemmas.Bool.{leb-false, leb-true}
use Rattle.std.proofs.lemmas.Bool.Decides.{nat_tests}
use Rattle.ir_tree_laws.specs.Members.{In}
use Rattle.ir_tree_laws.proofs.Listed.{both, neither, not_false}
use Rattle.ir_tree_blocks.specs.Flat.{FlatBlock}
use Rattle.ir_tree_blocks.specs.Nesting.{all_differ}
use Rattle.ir_tree_blocks.specs.Flattening.{insert_block, sorted_blocks}
use Rattle.ir_tree_blocks.proofs.Sorted.{in_insert, in_sorted, sorted_in}
use Rattle.ir_tree_blocks.proofs.Differing.{distinct_differ, differ_distinct}

abbrev labels : List FlatBlock → List ℕ
labels bs = map (λ (b : FlatBlock). b.label) bs

-- numbers of a list never fall, and they rise
abbrev pub Climbs : {X : Type 0} → (X → ℕ) → List X → Type 0
Climbs n [] = Unit {0}
Climbs n (x ∷ xs) = AllByRecursion (λ y. n x ≤ n y) xs × Climbs n xs

abbrev Rises : List FlatBlock → Type 0
Rises [] = Unit {0}
Rises (b ∷ bs) = AllByRecursion (λ (c : FlatBlock). b.label < c.label) bs × Rises bs

all_from : {X : Type 0} (P : X → Type 0) (xs : List X) → ((j : ℕ) (d : X) → j < length xs → P (get_or xs j d)) → AllByRecursion P xs
all_from P [] h = tt
all_from P (x ∷ xs) h = (h 0 x (omega arith), all_from P xs (λ j d l. h (suc j) d (omega arith)))

pub climbs_from : {X : Type 0} (n : X → ℕ) (xs : List X) → IsNonDecreasingBy n xs → Climbs n xs
climbs_from n [] h = tt
climbs_from n (x ∷ xs) h = (all_from (λ y. n x ≤ n y) xs (λ j d l. h 0 (suc j) d (omega arith) (omega arith)), climbs_from n xs (λ i j d a l. h (suc i) (suc j) d (omega arith) (omega arith)))

all_mapped : {X Y : Type 0} (f : X → Y) (P : Y → Type 0) (xs : List X) → AllByRecursion (λ x. P (f x)) xs → AllByRecursion P (map f xs)
all_mapped f P [] h = tt
all_mapped f P (x ∷ xs) h = (h.0, all_mapped f P xs h.1)

pub climbs_mapped : {X Y : Type 0} (f : X → Y) (n : Y → ℕ) (xs : List X) → Climbs (λ x. n (f x)) xs → Climbs n (map f xs)
climbs_mapped f n [] h = tt
climbs_mapped f n (x ∷ xs) h = (all_mapped f (λ y. n (f x) ≤ n y) xs h.0, climbs_mapped f n xs h.1)

all_in : (P : FlatBlock → Type 0) (bs : List FlatBlock) (b : FlatBlock) → AllByRecursion P bs → In b bs → P b
all_in P [] b all h = absurd h
all_in P (c ∷ cs) b all (inl e) = subst P (sym e) all.0
all_in P (c ∷ cs) b all (inr h) = all_in P cs b all.1 h

all_of : (P : FlatBlock → Type 0) (bs : List FlatBlock) → ((b : FlatBlock) → In b bs → P b) → AllByRecursion P bs
all_of P [] f = tt
all_of P (b ∷ bs) f = (f b (inl refl), all_of P bs (λ c h. f c (inr h)))

-- a label that is none of those of a list
apart_in : (l : ℕ) (bs : List FlatBlock) (b : FlatBlock) → list_any (eqb l) (labels bs) ≡ false → In b bs → l ≡ b.label → ⊥
apart_in l [] b h m e = m
apart_in l (c ∷ cs) b h (inl p) e = true≢false (sym (eq-eqb l c.label (e ∙ ap (λ (x : FlatBlock). x.label) p)) ∙ (neither (eqb l c.label) (list_any (eqb l) (labels cs)) h).0)
apart_in l (c ∷ cs) b h (inr m) e = apart_in l cs b (neither (eqb l c.label) (list_any (eqb l) (labels cs)) h).1 m e

-- labels that never fall and differ rise
rises_up : (bs : List FlatBlock) → Climbs (λ (b : FlatBlock). b.label) bs → all_differ (labels bs) ≡ true → Rises bs
rises_up [] h d = tt
rises_up (b ∷ bs) h d =
    let p = both (not (list_any (eqb b.label) (labels bs))) (all_differ (labels bs)) d in
    let alone = not_false (list_any (eqb b.label) (labels bs)) p.0 in
    (all_of (λ (c : FlatBlock). b.label < c.label) bs (λ c m. below b.label c.label (all_in (λ (c : FlatBlock). b.label ≤ c.label) bs c h.0 m) (apart_in b.label bs c alone m)), rises_up bs h.1 p.1)
  where
    below : (m n : ℕ) → m ≤ n → (m ≡ n → ⊥) → m < n
    below m n l apart = omega (arith, l, apart)

insert_rises : (b : FlatBlock) (cs : List FlatBlock) → Rises cs → ((c : FlatBlock) → In c cs → b.label ≡ c.label → ⊥) → Rises (insert_block b cs)
insert_rises b [] h apart = (tt, tt)
insert_rises b (c ∷ cs) h apart = step (nat_le b.label c.label) refl (insert_rises b cs h.1 (λ d m. apart d (inr m)))
  where
    above : (d : FlatBlock) → In d cs → b.label ≤ c.label → b.label < d.label
    above d m l = omega (arith, l, all_in (λ (x : FlatBlock). c.label < x.label) cs d h.0 m)

    over : (d : FlatBlock) → In d (b ∷ cs) → c.label < b.label → c.label < d.label
    over d (inl e) l = subst (λ (x : FlatBlock). c.label < x.label) (sym e) l
    over d (inr m) l = all_in (λ (x : FlatBlock). c.label < x.label) cs d h.0 m

    step : (t : Bool) → nat_le b.label c.label ≡ t → Rises (insert_block b cs) → Rises (cond t (b ∷ c ∷ cs) (c ∷ insert_block b cs))
    step true e rest =
        let l = leb-true b.label c.label e in
        let first : b.label < c.label = omega (arith, l, apart c (inl refl)) in
        ((first, all_of (λ (d : FlatBlock). b.label < d.label) cs (λ d m. above d m l)), h)
    step false e rest =
        let l : c.label < b.label = leb-false b.label c.label e in
        (all_of (λ (d : FlatBlock). c.label < d.label) (insert_block b cs) (λ d m. over d (in_insert d b cs m) l), rest)

sorted_rises : (bs : List FlatBlock) → all_differ (labels bs) ≡ true → Rises (sorted_blocks bs)
sorted_rises [] d = tt
sorted_rises (b ∷ bs) d =
    let p = both (not (list_any (eqb b.label) (labels bs))) (all_differ (labels bs)) d in
    insert_rises b (sorted_blocks bs) (sorted_rises bs p.1) (λ c m. apart_in b.label bs c (not_false (list_any (eqb b.label) (labels bs)) p.0) (in_sorted c bs m))

-- two lists with rising labels and the same members are equal
one_list : (xs ys : List FlatBlock) → Rises xs → Rises ys → ((x : FlatBlock) → In x xs → In x ys) → ((y : FlatBlock) → In y ys → In y xs) → xs ≡ ys
one_list [] [] h k f g = refl
one_list [] (y ∷ ys) h k f g = absurd (g y (inl refl))
one_list (x ∷ xs) [] h k f g = absurd (f x (inl refl))
one_list (x ∷ xs) (y ∷ ys) h k f g =
    let first : x ≡ y = elim (f x (inl refl)) [
      | inl e ↦ e
      | inr m ↦ elim (g y (inl refl)) [
        | inl e ↦ sym e
        | inr n ↦ absurd (crossed x y (all_in (λ (z : FlatBlock). x.label < z.label) xs y h.0 n) (all_in (λ (z : FlatBlock). y.label < z.label) ys x k.0 m))
      ]
    ] in
    let later : xs ≡ ys = one_list xs ys h.1 k.1 (λ z m. rest z m first (f z (inr m))) (λ z m. rest_back z m first (g z (inr m))) in
    λ i. first i ∷ later i
  where
    crossed : (a b : FlatBlock) → a.label < b.label → b.label < a.label → ⊥
    crossed a b l m = omega (arith, l, m)

    itself : (a b : FlatBlock) → a ≡ b → a.label < b.label → ⊥
    itself a b e l = omega (arith, l, ap (λ (z : FlatBlock). z.label) e)

    rest : (z : FlatBlock) → In z xs → x ≡ y → In z (y ∷ ys) → In z ys
    rest z m e (inl p) = absurd (itself x z (e ∙ sym p) (all_in (λ (w : FlatBlock). x.label < w.label) xs z h.0 m))
    rest z m e (inr n) = n

    rest_back : (z : FlatBlock) → In z ys → x ≡ y → In z (x ∷ xs) → In z xs
    rest_back z m e (inl p) = absurd (itself y z (sym e ∙ sym p) (all_in (λ (w : FlatBlock). y.label < w.label) ys z k.0 m))
    rest_back z m e (inr n) = n

in_at : (xs : List FlatBlock) (i : ℕ) (x : FlatBlock) → i < length xs → slice_index_or xs i x ≡ x → In x xs
in_at [] i x h e = absurd (omega arith)
in_at (y ∷ ys) zero x h e = inl (sym e)
in_at (y ∷ ys) (suc i) x h e = inr (in_at ys i x (omega arith) e)

in_contained : (xs : List FlatBlock) (x : FlatBlock) → In x xs → Contains xs x
in_contained [] x h = absurd h
in_contained (y ∷ ys) x (inl p) = (0, omega arith, sym p)
in_contained (y ∷ ys) x (inr m) = let r = in_contained ys x m in (r.0 + 1, omega (arith, r.1), ap (λ k. slice_index_or (y ∷ ys) k x) (let e : r.0 + 1 ≡ suc r.0 = omega arith in e) ∙ r.2)

moved_in : (xs ys : List FlatBlock) → IsPermutation xs ys → (x : FlatBlock) → In x xs → In x ys
moved_in xs ys moved x h = let r = Contains-permutation xs ys x moved (in_contained xs x h) in in_at ys r.0 x r.1 r.2

turned : (x y : ℕ) → eqb x y ≡ eqb y x
turned x y = grind (arith, nat_tests)

-- blocks whose labels never fall, if they differ, are the sorted blocks
pub sorted_only : (bs cs : List FlatBlock) → all_differ (labels bs) ≡ true → IsPermutation bs cs → Climbs (λ (b : FlatBlock). b.label) cs → cs ≡ sorted_blocks bs
sorted_only bs cs d moved up =
    let e = distinct_differ (labels cs) (IsDistinct-IsPermutation eqb turned (labels bs) (labels cs) (IsPermutation-map (λ (b : FlatBlock). b.label) bs cs moved) (differ_distinct (labels bs) d)) in
    one_list cs (sorted_blocks bs) (rises_up cs up e) (sorted_rises bs d)
    (λ x m. sorted_in x bs (moved_in cs bs (IsPermutation-sym bs cs moved) x m))
    (λ x m. moved_in bs cs moved x (in_sorted x bs m))
