-- What the calls of a walk over a list keep of the waiting indices.
use Rattle.std.proofs.Common.{◌≡◌, refl, ap, sym, ◌∙◌, subst, inl, inr, ◌⊎◌, ℕ, zero, suc, ◌+◌, ◌-◌, ◌<◌, ◌≤◌, Bool, true, false, true≢false, cond, ◌||◌, eqb, eqb-true, eq-eqb, List, [], ◌∷◌, length, take, drop, get_or, Option, Some, None, arith}
use Rattle.std.specs.Prelude.{slice_get}
use Rattle.std.specs.List.{All, IsDistinct, list_any}
use Rattle.std.specs.Map.{update}
use Rattle.std.specs.Ordering.{match_ordering, nat_cmp}
use Rattle.std.specs.declared.cmp.Ordering.{Ordering}
use Rattle.std.specs.declared.cmp.Ordering.TheVariants.{Less, Equal, Greater}
use Rattle.std.specs.BTreeSet.{insert_key}
use Rattle.std.proofs.lemmas.Bool.{cases_order}
use Rattle.std.proofs.lemmas.Cmp.{ranked}
use Rattle.std.proofs.lemmas.List.Elements.{All-head, All-tail}
use Rattle.std.proofs.lemmas.Map.Keys.{IsDistinct-tail}
use Rattle.ir_event.proofs.of_trees.Returns.{absent_first}
use Rattle.ir_event.specs.tree_laws.Members.{In}
use Rattle.ir_event.proofs.of_tree_laws.Listed.{bool_cases}
use Rattle.conversion.specs.Waiting.{Again, ArePlaces, Took, Waits, of_again}
use Rattle.ir_event.proofs.of_types.Truths.{less_than, take_whole}
use Rattle.std.proofs.lemmas.Option.{same_Some}

-- ---- a set's keys

all_in : (P : ℕ → Type 0) (xs : List ℕ) → All P xs → (q : ℕ) → In q xs → P q
all_in P [] a q h = absurd h
all_in P (x ∷ xs) a q (inl e) = subst P (sym e) (All-head P x xs a)
all_in P (x ∷ xs) a q (inr h) = all_in P xs (All-tail P x xs a) q h

pub took_again : (passed : ℕ) (old new : List ℕ) (p : ℕ) → old ≡ p ∷ new → All (λ q. nat_cmp p q ≡ Less) new → Took passed old passed new p
took_again passed old new p e a = of_again e refl (λ q h. less_than p q (all_in (λ q. nat_cmp p q ≡ Less) new a q h))

in_insert : (xs : List ℕ) (p q : ℕ) → In q xs → In q (insert_key nat_cmp xs p)
in_insert [] p q h = absurd h
in_insert (x ∷ xs) p q h = go (nat_cmp p x) h (in_insert xs p q)
  where
    go : (o : Ordering) → In q (x ∷ xs) → (In q xs → In q (insert_key nat_cmp xs p)) → In q (match_ordering o (p ∷ x ∷ xs) (x ∷ xs) (x ∷ insert_key nat_cmp xs p))
    go Less k f = inr k
    go Equal k f = k
    go Greater (inl e) f = inl e
    go Greater (inr k) f = inr (f k)

inserted : (xs : List ℕ) (p : ℕ) → In p (insert_key nat_cmp xs p)
inserted [] p = inl refl
inserted (x ∷ xs) p = go (nat_cmp p x) refl (inserted xs p)
  where
    go : (o : Ordering) → nat_cmp p x ≡ o → In p (insert_key nat_cmp xs p) → In p (match_ordering o (p ∷ x ∷ xs) (x ∷ xs) (x ∷ insert_key nat_cmp xs p))
    go Less e f = inl refl
    go Equal e f = inl (ranked p x Equal (sym e))
    go Greater e f = inr f

from_insert : (xs : List ℕ) (p q : ℕ) → In q (insert_key nat_cmp xs p) → In q xs ⊎ (q ≡ p)
from_insert [] p q (inl e) = inr e
from_insert [] p q (inr h) = absurd h
from_insert (x ∷ xs) p q h = go (nat_cmp p x) h (from_insert xs p q)
  where
    go : (o : Ordering) → In q (match_ordering o (p ∷ x ∷ xs) (x ∷ xs) (x ∷ insert_key nat_cmp xs p)) → (In q (insert_key nat_cmp xs p) → In q xs ⊎ (q ≡ p)) → In q (x ∷ xs) ⊎ (q ≡ p)
    go Less (inl e) f = inr e
    go Less (inr k) f = inl k
    go Equal k f = inl k
    go Greater (inl e) f = inl (inl e)
    go Greater (inr k) f = elim (f k) [ inl i ↦ inl (inr i) | inr i ↦ inr i ]

pub waits_so : (p passed : ℕ) (old new : List ℕ) → p < passed → new ≡ insert_key nat_cmp old p → Waits p passed old passed new
waits_so p passed old new l e = record {
  same = refl;
  more = λ q h. subst (In q) (sym e) (in_insert old p q h);
  within = λ q h. elim (from_insert old p q (subst (In q) e h)) [ inl k ↦ inl k | inr k ↦ inr (subst (λ z. z < passed) (sym k) l) ];
  added = λ k. subst (In p) (sym e) (inserted old p);
}

pub waits_later : (p passed : ℕ) (again : List ℕ) → passed ≤ p → Waits p passed again passed again
waits_later p passed again l = record { same = refl; more = λ q h. h; within = λ q h. inl h; added = λ k. absurd (omega (arith, l, k)) }

-- ---- operations by their indices

pub again_one : (x p : ℕ) (f : ℕ → Option ℕ) (passed : ℕ) (again : List ℕ) (passed2 : ℕ) (again2 : List ℕ) → f x ≡ Some p → Waits p passed again passed2 again2 → Again (x ∷ []) f passed again passed2 again2
again_one x p f passed again passed2 again2 e w = record {
  same = w.same;
  more = w.more;
  within = w.within;
  added = λ g q h k l. elim h [
    | inl i ↦
        let two : Some p ≡ Some q = sym e ∙ ap f (sym i) ∙ k in
        let one : p ≡ q = cc in
        subst (λ z. In z again2) one (w.added (subst (λ z. z < passed) (sym one) l))
    | inr i ↦ absurd i
  ];
}

pub again_none : (x : ℕ) (f : ℕ → Option ℕ) (passed : ℕ) (again : List ℕ) → f x ≡ None → Again (x ∷ []) f passed again passed again
again_none x f passed again e = record {
  same = refl;
  more = λ q h. h;
  within = λ q h. inl h;
  added = λ g q h k l. elim h [
    | inl i ↦ (let no : None ≡ Some q = sym e ∙ ap f (sym i) ∙ k in absurd cc)
    | inr i ↦ absurd i
  ];
}

-- the entries of a list that are still to be added
pub record Adding (all rest : List ℕ) (f : ℕ → Option ℕ) (passed : ℕ) (again : List ℕ) (passed2 : ℕ) (again2 : List ℕ) : Type 0 where
  pub same : passed2 ≡ passed
  pub more : (q : ℕ) → In q again → In q again2
  pub within : (q : ℕ) → In q again2 → In q again ⊎ (q < passed)
  pub added : (g q : ℕ) → In g all → f g ≡ Some q → q < passed → In g rest ⊎ In q again2

pub adding_none : (all : List ℕ) (f : ℕ → Option ℕ) (passed : ℕ) (again : List ℕ) → Adding all all f passed again passed again
adding_none all f passed again = record { same = refl; more = λ q h. h; within = λ q h. inl h; added = λ g q h k l. inl h }

rest_at : (xs : List ℕ) (x : ℕ) → 1 ≤ length xs → x ≡ get_or xs 0 x → xs ≡ x ∷ take (length xs - 1) (drop 1 xs)
rest_at [] x l e = absurd (omega (arith, l))
rest_at (y ∷ ys) x l e =
    let n : length (y ∷ ys) - 1 ≡ length ys = omega arith in
    λ i. sym e i ∷ sym (ap (λ k. take k ys) n ∙ take_whole ys) i

pub adding_more : (all rest : List ℕ) (x : ℕ) (f : ℕ → Option ℕ) (passed : ℕ) (again : List ℕ) (passed2 : ℕ) (again2 : List ℕ) (passed3 : ℕ) (again3 : List ℕ) → 1 ≤ length rest → x ≡ get_or rest 0 x → Adding all rest f passed again passed2 again2
    → Again (x ∷ []) f passed2 again2 passed3 again3 → Adding all (take (length rest - 1) (drop 1 rest)) f passed again passed3 again3
adding_more all rest x f passed again passed2 again2 passed3 again3 l z a b = record {
  same = b.same ∙ a.same;
  more = λ q h. b.more q (a.more q h);
  within = λ q h. elim (b.within q h) [ inl k ↦ a.within q k | inr k ↦ inr (subst (λ j. q < j) a.same k) ];
  added = λ g q h k j. elim (a.added g q h k j) [
    | inr i ↦ inr (b.more q i)
    | inl i ↦ elim (subst (In g) (rest_at rest x l z) i) [ inr m ↦ inl m | inl m ↦ inr (b.added g q (inl m) k (subst (λ y. q < y) (sym a.same) j)) ]
  ];
}

pub adding_done : (all rest : List ℕ) (f : ℕ → Option ℕ) (passed : ℕ) (again : List ℕ) (passed2 : ℕ) (again2 : List ℕ) → length rest < 1 → Adding all rest f passed again passed2 again2 → Again all f passed again passed2 again2
adding_done all [] f passed again passed2 again2 l a = record { same = a.same; more = a.more; within = a.within; added = λ g q h k j. elim (a.added g q h k j) [ inl i ↦ absurd i | inr i ↦ i ] }
adding_done all (x ∷ rest) f passed again passed2 again2 l a = absurd (omega (arith, l))

-- ---- recorded indices

pub there_at : (zs : List ℕ) (p z : ℕ) → slice_get zs p ≡ Some z → list_any (λ u. eqb u z) zs ≡ true
there_at [] p z e = absurd cc
there_at (u ∷ zs) zero z e = (let same : u ≡ z = cc in ap (λ b. b || list_any (λ v. eqb v z) zs) (eq-eqb u z same))
there_at (u ∷ zs) (suc p) z e = go (eqb u z) (there_at zs p z e)
  where
    go : (b : Bool) → list_any (λ v. eqb v z) zs ≡ true → (b || list_any (λ v. eqb v z) zs) ≡ true
    go true h = refl
    go false h = h

first_once : (z : ℕ) (zs : List ℕ) → IsDistinct eqb (z ∷ zs) → (p x : ℕ) → z ≡ x → slice_get zs p ≡ Some x → ⊥
first_once z zs d p x i e = true≢false (sym (there_at zs p z (e ∙ ap Some (sym i))) ∙ absent_first z zs d)

distinct_at : (xs : List ℕ) → IsDistinct eqb xs → (q p x : ℕ) → slice_get xs q ≡ Some x → slice_get xs p ≡ Some x → q ≡ p
distinct_at [] d q p x e f = absurd cc
distinct_at (y ∷ xs) d zero zero x e f = refl
distinct_at (y ∷ xs) d zero (suc p) x e f = absurd (first_once y xs d p x (same_Some y x e) f)
distinct_at (y ∷ xs) d (suc q) zero x e f = absurd (first_once y xs d q x (same_Some y x f) e)
distinct_at (y ∷ xs) d (suc q) (suc p) x e f = ap suc (distinct_at xs (IsDistinct-tail eqb y xs d) q p x e f)

-- a list with a number of entries recorded at their indices
pub record Noting (all rest : List ℕ) (place : ℕ) (f : ℕ → Option ℕ) : Type 0 where
  pub count : place + length rest ≡ length all
  pub rests : (k : ℕ) → slice_get all (place + k) ≡ slice_get rest k
  pub noted : (q x : ℕ) → q < place → slice_get all q ≡ Some x → f x ≡ Some q

pub noting_none : (all : List ℕ) (f : ℕ → Option ℕ) → Noting all all 0 f
noting_none all f = record { count = omega arith; rests = λ k. (let e : 0 + k ≡ k = omega arith in ap (slice_get all) e); noted = λ q x l e. absurd (omega (arith, l)) }

pub noting_more : (all rest : List ℕ) (x place : ℕ) (f g : ℕ → Option ℕ) → IsDistinct eqb all → 1 ≤ length rest → x ≡ get_or rest 0 x → Noting all rest place f → ((q : ℕ) → g q ≡ update eqb f x (Some place) q)
    → Noting all (take (length rest - 1) (drop 1 rest)) (place + 1) g
noting_more all rest x place f g d l z n h =
    let is = rest_at rest x l z in
    let tail = take (length rest - 1) (drop 1 rest) in
    let here : slice_get all place ≡ Some x = (let e : place ≡ place + 0 = omega arith in ap (slice_get all) e ∙ n.rests 0 ∙ ap (λ r. slice_get r 0) is) in
    record {
      count = (let a = n.count in let b = ap length is in omega (arith, a, b));
      rests = λ k. (let e : place + 1 + k ≡ place + suc k = omega arith in ap (slice_get all) e ∙ n.rests (suc k) ∙ ap (λ r. slice_get r (suc k)) is);
      noted = λ q y m e. elim (bool_cases (eqb x y)) [
        | inl i ↦
            (let same : q ≡ place = distinct_at all d q place y e (here ∙ ap Some (eqb-true x y i)) in
            h y ∙ ap (λ b. cond b (Some place) (f y)) i ∙ ap Some (sym same))
        | inr i ↦ h y ∙ ap (λ b. cond b (Some place) (f y)) i ∙ n.noted q y (earlier q y m e i here) e
      ];
    }
  where
    earlier : (q y : ℕ) → q < place + 1 → slice_get all q ≡ Some y → eqb x y ≡ false → slice_get all place ≡ Some x → q < place
    earlier q y m e i here = elim (cases_order q place) [
      | inl k ↦ (let two : Some y ≡ Some x = sym e ∙ ap (slice_get all) k ∙ here in let same : y ≡ x = cc in absurd (true≢false (sym (eq-eqb x y (sym same)) ∙ i)))
      | inr (inl k) ↦ k
      | inr (inr k) ↦ absurd (omega (arith, m, k))
    ]

pub noting_done : (all rest : List ℕ) (place : ℕ) (f : ℕ → Option ℕ) → length rest < 1 → Noting all rest place f → ArePlaces all f
noting_done all [] place f l n q x e = n.noted q x (below all q x e) e
  where
    within_length : (xs : List ℕ) (q x : ℕ) → slice_get xs q ≡ Some x → q < length xs
    within_length [] q x e = absurd cc
    within_length (u ∷ xs) zero x e = omega arith
    within_length (u ∷ xs) (suc q) x e = let n = within_length xs q x e in omega (arith, n)

    below : (xs : List ℕ) (q x : ℕ) → slice_get all q ≡ Some x → q < place
    below xs q x e = let a = within_length all q x e in let b = n.count in omega (arith, a, b)
noting_done all (x ∷ rest) place f l n q y e = absurd (omega (arith, l))
