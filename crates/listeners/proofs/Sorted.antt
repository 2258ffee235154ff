-- Sorted keys.
use Rattle.std.proofs.Common.{◌≡◌, refl, ap, sym, ◌∙◌, subst, inl, inr, ℕ, suc, ◌+◌, ◌<◌, false, List, [], ◌∷◌, ◌++◌, length, get_or, set, take, drop, map, Option, Some, None, arith}
use Rattle.std.specs.declared.cmp.Ordering.{Ordering}
use Rattle.std.specs.declared.cmp.Ordering.TheVariants.{Less, Equal, Greater}
use Rattle.std.specs.Ordering.{ordering_then, ordering_reverse, nat_cmp, is_gt, is_lt}
use Rattle.std.specs.Option.{option_cmp}
use Rattle.std.specs.List.{swap}
use Rattle.std.specs.List.Sorted.{IsPermutation, IsSorted, IsSortedBy}
use Rattle.std.proofs.lemmas.List.{set_split, get_or-set_same, get_or-set_other, get_or-map, take-append-drop, drop_more, length-set, length-map}
use Rattle.std.proofs.lemmas.Bool.{cases_eq}
use Rattle.std.proofs.lemmas.List.Sorted.{IsPermutation-keeps, IsPermutation-map}
use Rattle.ir_event.specs.trees.declared.value.Value.{Value}
use Rattle.ir_event.specs.trees.declared.value.Value.TheVariants.{Result, Arg}
use Rattle.ir_event.specs.trees.Frames.{owner_of, place_of}
use Rattle.listeners.specs.declared.key.Use.{Use}
use Rattle.listeners.specs.declared.key.UseKey.{UseKey}
use Rattle.listeners.specs.Uses.{use_cmp, put_use, in_order}
use Rattle.listeners.specs.Keys.{key_of, keys_of, value_at, use_of}
use Rattle.listeners.proofs.Drops.{drop_use}
use Rattle.listeners.proofs.Orders.{use_total, insert_sorted, put_first, drop_put}

-- use i of a list may be inserted among the others
take_at_place : (l : List Use) (i : ℕ) (d : Use) → i < length l → l ≡ take i l ++ get_or l i d ∷ drop (i + 1) l
take_at_place l i d lt = sym (take-append-drop i l) ∙ ap (λ r. take i l ++ r) (drop_more l i d lt)

put_at_place : (l : List Use) (i : ℕ) (d : Use) → i < length l → in_order l ≡ put_use (get_or l i d) (in_order (take i l ++ drop (i + 1) l))
put_at_place l i d lt = ap in_order (take_at_place l i d lt) ∙ insert_sorted (take i l) (drop (i + 1) l) (get_or l i d)

set_at_place : (l : List Use) (i : ℕ) (u : Use) → i < length l → in_order (set l i u) ≡ put_use u (in_order (take i l ++ drop (i + 1) l))
set_at_place l i u lt = ap in_order (set_split l i u lt) ∙ ap (λ (k : ℕ). in_order (take i l ++ u ∷ drop k l)) (let e : suc i ≡ i + 1 = omega arith in e) ∙ insert_sorted (take i l) (drop (i + 1) l) u

-- lists that are equal with one more use are equal
put_apart : (u : Use) (us vs : List Use) → put_use u us ≡ put_use u vs → us ≡ vs
put_apart u us vs e = sym (drop_put u us) ∙ ap (drop_use u) e ∙ drop_put u vs

read_again : (l : List Use) (i j : ℕ) (d : Use) → i < length l → j < length l → get_or (set l i (get_or l j d)) j d ≡ get_or l j d
read_again l i j d lt1 lt2 = elim (cases_eq i j) [ inl e ↦ ap (λ k. get_or (set l k (get_or l j d)) j d) e ∙ get_or-set_same l j (get_or l j d) d lt2 | inr n ↦ get_or-set_other l i j (get_or l j d) d (λ e. n (sym e)) ]

-- uses that swap places
swapped_order : (l : List Use) (i j : ℕ) → i < length l → j < length l → in_order (swap l i j) ≡ in_order l
swapped_order [] i j lt1 lt2 = refl
swapped_order (d ∷ ds) i j lt1 lt2 =
    let l : List Use = d ∷ ds in
    let a : Use = get_or l i d in
    let b : Use = get_or l j d in
    let m : List Use = set l i b in
    let long : j < length m = subst (λ n. j < n) (sym (length-set l i b)) lt2 in
    let rest : in_order (take i l ++ drop (i + 1) l) ≡ in_order (take j m ++ drop (j + 1) m) =
    put_apart b _ _ (sym (set_at_place l i b lt1) ∙ put_at_place m j d long ∙ ap (λ u. put_use u (in_order (take j m ++ drop (j + 1) m))) (read_again l i j d lt1 lt2)) in
    set_at_place m j a long ∙ ap (put_use a) (sym rest) ∙ sym (put_at_place l i d lt1)

pub moved_order : (us vs : List Use) → IsPermutation us vs → in_order vs ≡ in_order us
moved_order us vs moved = IsPermutation-keeps us (λ l. in_order l ≡ in_order us) refl (λ l i j lt1 lt2 h. swapped_order l i j lt1 lt2 ∙ h) vs moved

-- a list in which no use comes before its predecessor is in order
sorted_tail : (u : Use) (us : List Use) → IsSortedBy (λ u v. is_lt (use_cmp u v)) (u ∷ us) → IsSortedBy (λ u v. is_lt (use_cmp u v)) us
sorted_tail u us up k d low high =
    ap (λ j. is_lt (use_cmp (get_or (u ∷ us) j d) (get_or us k d))) (let e : suc (k + 1) ≡ suc k + 1 = omega arith in e) ∙ up (suc k) d (omega arith) (omega (arith, high))

not_after : (u v : Use) → is_lt (use_cmp v u) ≡ false → is_gt (use_cmp u v) ≡ false
not_after u v h = ap is_gt (use_total.antisymm u v) ∙ turned (use_cmp v u) ∙ h
  where
    turned : (o : Ordering) → is_gt (ordering_reverse o) ≡ is_lt o
    turned Less = refl
    turned Equal = refl
    turned Greater = refl

pub sorted_order : (us : List Use) → IsSortedBy (λ u v. is_lt (use_cmp u v)) us → in_order us ≡ us
sorted_order [] up = refl
sorted_order (u ∷ []) up = refl
sorted_order (u ∷ v ∷ vs) up =
    ap (put_use u) (sorted_order (v ∷ vs) (sorted_tail u (v ∷ vs) up)) ∙ put_first u v vs (not_after u v (up 0 u (omega arith) (omega arith)))

-- a key has the parts of its use, and a use those of its key
pub value_back : (v : Value) → value_at (owner_of v).0 (owner_of v).1 (place_of v) ≡ v
value_back (Result x k) = refl
value_back (Arg x r k) = refl

owner_back : (x : ℕ) (r : Option ℕ) (k : ℕ) → owner_of (value_at x r k) ≡ (x, r)
owner_back x None k = refl
owner_back x (Some r) k = refl

place_back : (x : ℕ) (r : Option ℕ) (k : ℕ) → place_of (value_at x r k) ≡ k
place_back x None k = refl
place_back x (Some r) k = refl

pub key_back : (k : UseKey) → key_of (use_of k) ≡ k
key_back k = λ i. record { owner = (owner_back k.owner k.region k.place i).0; region = (owner_back k.owner k.region k.place i).1; place = place_back k.owner k.region k.place i; user = k.user; operand = k.operand }

keys_back : (ks : List UseKey) → keys_of (map use_of ks) ≡ ks
keys_back [] = refl
keys_back (k ∷ ks) = λ i. key_back k i ∷ keys_back ks i

pub uses_back : (us : List Use) → map use_of (keys_of us) ≡ us
uses_back [] = refl
uses_back (u ∷ us) = λ i. record { value = value_back u.value i; user = u.user; operand = u.operand } ∷ uses_back us i

-- the order of keys
abbrev pub key_cmp : UseKey → UseKey → Ordering
key_cmp a b =
    ordering_then (nat_cmp a.owner b.owner)
    (ordering_then (option_cmp nat_cmp a.region b.region) (ordering_then (nat_cmp a.place b.place) (ordering_then (nat_cmp a.user b.user) (nat_cmp a.operand b.operand))))

-- sorted keys of uses
uses_sorted : (us : List Use) → IsSorted key_cmp (keys_of us) → IsSortedBy (λ u v. is_lt (use_cmp u v)) us
uses_sorted us up k d low high =
    (λ i. is_lt (key_cmp (sym (get_or-map key_of us (k + 1) d (key_of d) high) i) (sym (get_or-map key_of us k d (key_of d) (omega (arith, high))) i)))
    ∙ up k (key_of d) low (subst (λ n. k + 1 < n) (sym (length-map us key_of)) high)

-- the sorted keys of uses are the keys of the uses in order
pub sorted_keys_of : (us : List Use) (ks ls : List UseKey) → ks ≡ keys_of us → IsPermutation ks ls → IsSorted key_cmp ls → ls ≡ keys_of (in_order us)
sorted_keys_of us ks ls is moved up =
    let vs : List Use = map use_of ls in
    let back : keys_of vs ≡ ls = keys_back ls in
    let from : map use_of ks ≡ us = ap (map use_of) is ∙ uses_back us in
    let moves : IsPermutation us vs = subst (λ l. IsPermutation l vs) from (IsPermutation-map use_of ks ls moved) in
    let rises : IsSorted key_cmp (keys_of vs) = subst (λ l. IsSorted key_cmp l) (sym back) up in
    sym back ∙ ap keys_of (sym (sorted_order vs (uses_sorted vs rises)) ∙ moved_order us vs moves)
