-- Sorted entries: the stored dictionary doesn't depend on the order in which the entries were given.
use Rattle.std.proofs.Common.{◌≡◌, ◌≢◌, refl, sym, ap, ◌∙◌, subst, ℕ, zero, suc, ◌+◌, ◌<◌, Bool, true, false, true≢false, cond, List, [], ◌∷◌, length, map, Some, get_or, ◌⊎◌, inl, inr, ⊎_elim, arith}
use Rattle.std.specs.Prelude.{◌||◌, ◌==◌, nat_eq, slice_index_or, Contains, IsPermutation}
use Rattle.std.specs.List.{All, AllByRecursion, list_any, IsDistinct}
use Rattle.std.specs.List.Sorted.{IsSortedBy}
use Rattle.std.specs.declared.cmp.Ordering.{Ordering}
use Rattle.std.specs.declared.cmp.Ordering.TheVariants.{Less, Equal, Greater}
use Rattle.std.specs.Ordering.{is_lt, is_eq, nat_cmp, ordering_reverse}
use Rattle.std.proofs.Common.{eq-eqb, eqb-true}
use Rattle.std.proofs.lemmas.Slice.Eq.{bytes_eq-Decides}
use Rattle.std.proofs.lemmas.Map.Text.{is_eq-slice_cmp}
use Rattle.std.proofs.lemmas.Option.{slice_get-get_or}
use Rattle.std.specs.Cmp.{IsTotalOrder, both_ways}
use Rattle.std.specs.Cmp.Lexicographic.{slice_cmp}
use Rattle.std.proofs.lemmas.Cmp.{nat_list_cmp_total}
use Rattle.std.proofs.lemmas.List.Elements.{recursion_from_All, All-from_recursion}
use Rattle.std.proofs.lemmas.List.Sorted.{Contains-permutation, IsPermutation-refl, IsPermutation-trans, IsPermutation-swap, IsPermutation-cons, IsPermutation-sym, IsPermutation-map, All-permutation}
use Rattle.std.proofs.lemmas.Map.Keys.{IsDistinct-IsPermutation, IsDistinct-from_apart}
use Rattle.std.proofs.lemmas.List.{length-map, get_or-map}
use Rattle.std.proofs.lemmas.List.Kept.{AllPairs-cons}
use Rattle.ir_types_interner.specs.Interned.{AreApart}
use Rattle.ir_types.specs.Sound.{IsRising}
use Rattle.ir_types.specs.Dictionaries.{key_bytes, comes_before, placed_among, sorted, has_duplicate, duplicate_after, has_adjacent_duplicate}
use Rattle.std.proofs.lemmas.Bool.{or_parts, or_right}

abbrev Entry : Type 0
Entry = ℕ × ℕ

abbrev order : List ℕ → List ℕ → Ordering
order = slice_cmp nat_cmp

-- the bytes of the keys are strictly increasing
abbrev pub Rise : List (List ℕ) → List Entry → Type 0
Rise names [] = Unit {0}
Rise names (e ∷ es) = AllByRecursion (λ (f : Entry). order (key_bytes names e) (key_bytes names f) ≡ Less) es × Rise names es

abbrev pub In : Entry → List Entry → Type 0
In x [] = ⊥
In x (y ∷ ys) = (y ≡ x) ⊎ In x ys

all_in : (P : Entry → Type 0) (es : List Entry) (x : Entry) → AllByRecursion P es → In x es → P x
all_in P [] x all at = absurd at
all_in P (e ∷ es) x all at = ⊎_elim (λ (p : e ≡ x). subst P p all.0) (λ (h : In x es). all_in P es x all.1 h) at

all_map : (P Q : Entry → Type 0) → ((x : Entry) → P x → Q x) → (es : List Entry) → AllByRecursion P es → AllByRecursion Q es
all_map P Q f [] all = tt
all_map P Q f (e ∷ es) all = (f e all.0, all_map P Q f es all.1)

module _ (names : List (List ℕ)) where
  abbrev at : Entry → List ℕ
  at e = key_bytes names e

  total : IsTotalOrder order
  total = nat_list_cmp_total

  less_more : (a b c : List ℕ) → order a b ≡ Less → order b c ≡ Less → order a c ≡ Less
  less_more a b c = total.trans a b c

  not_both : (a b : List ℕ) → order a b ≡ Less → order b a ≡ Less → ⊥
  not_both a b h k = let e : Less ≡ Greater = sym h ∙ total.antisymm a b ∙ ap ordering_reverse k in cc

  flips : (a b : List ℕ) → order a b ≡ Greater → order b a ≡ Less
  flips a b h = total.antisymm b a ∙ ap ordering_reverse h

  -- an entry with another key among entries with increasing keys
  placed_all : (P : Entry → Type 0) (e : Entry) (fs : List Entry) → P e → AllByRecursion P fs → AllByRecursion P (placed_among names e fs)
  placed_all P e [] p all = (p, tt)
  placed_all P e (f ∷ fs) p all =
      elim (comes_before names e f) as (λ b. AllByRecursion P (cond b (e ∷ f ∷ fs) (f ∷ placed_among names e fs)))
      [ true ↦ (p, all) | false ↦ (all.0, placed_all P e fs p all.1) ]

  placed_rises : (e : Entry) (fs : List Entry) → Rise names fs → AllByRecursion (λ f. order (at e) (at f) ≢ Equal) fs → Rise names (placed_among names e fs)
  placed_rises e [] rise apart = (tt, tt)
  placed_rises e (f ∷ fs) rise apart = go (order (at e) (at f)) refl (placed_rises e fs rise.1 apart.1)
    where
      go : (o : Ordering) → order (at e) (at f) ≡ o → Rise names (placed_among names e fs) → Rise names (placed_among names e (f ∷ fs))
      go Less h rest = rw h ((h, all_map (λ g. order (at f) (at g) ≡ Less) (λ g. order (at e) (at g) ≡ Less) (λ g k. less_more (at e) (at f) (at g) h k) fs rise.0), rise)
      go Equal h rest = absurd (apart.0 h)
      go Greater h rest = rw h (placed_all (λ g. order (at f) (at g) ≡ Less) e fs (flips (at e) (at f) h) rise.0, rest)

  placed_in : (e x : Entry) (fs : List Entry) → In x (e ∷ fs) → In x (placed_among names e fs)
  placed_in e x [] h = h
  placed_in e x (f ∷ fs) h =
      elim (comes_before names e f) as (λ b. In x (cond b (e ∷ f ∷ fs) (f ∷ placed_among names e fs))) [
        | true ↦ h
        | false ↦ ⊎_elim (λ (p : e ≡ x). inr (placed_in e x fs (inl p))) (λ (k : In x (f ∷ fs)). ⊎_elim (λ (p : f ≡ x). inl p) (λ (m : In x fs). inr (placed_in e x fs (inr m))) k) h
      ]

  in_placed : (e x : Entry) (fs : List Entry) → In x (placed_among names e fs) → In x (e ∷ fs)
  in_placed e x [] h = h
  in_placed e x (f ∷ fs) h = go (comes_before names e f) h (in_placed e x fs)
    where
      go : (b : Bool) → In x (cond b (e ∷ f ∷ fs) (f ∷ placed_among names e fs)) → (In x (placed_among names e fs) → In x (e ∷ fs)) → In x (e ∷ f ∷ fs)
      go true k back = k
      go false k back = ⊎_elim (λ (p : f ≡ x). inr (inl p)) (λ (m : In x (placed_among names e fs)). ⊎_elim (λ (p : e ≡ x). inl p) (λ (r : In x fs). inr (inr r)) (back m)) k

  sorted_in : (x : Entry) (es : List Entry) → In x es → In x (sorted names es)
  sorted_in x [] h = h
  sorted_in x (e ∷ es) h = placed_in e x (sorted names es) (⊎_elim (λ (p : e ≡ x). inl p) (λ (m : In x es). inr (sorted_in x es m)) h)

  in_sorted : (x : Entry) (es : List Entry) → In x (sorted names es) → In x es
  in_sorted x [] h = h
  in_sorted x (e ∷ es) h = ⊎_elim (λ (p : e ≡ x). inl p) (λ (m : In x (sorted names es)). inr (in_sorted x es m)) (in_placed e x (sorted names es) h)

  -- a property of all entries is a property of all sorted entries
  sorted_all : (P : Entry → Type 0) (es : List Entry) → AllByRecursion P es → AllByRecursion P (sorted names es)
  sorted_all P [] all = tt
  sorted_all P (e ∷ es) all = placed_all P e (sorted names es) all.0 (sorted_all P es all.1)

  -- entries whose keys have pairwise different bytes
  abbrev Apart : List Entry → Type 0
  Apart [] = Unit {0}
  Apart (e ∷ es) = AllByRecursion (λ f. order (at e) (at f) ≢ Equal) es × Apart es

  pub sorted_rises : (es : List Entry) → Apart es → Rise names (sorted names es)
  sorted_rises [] apart = tt
  sorted_rises (e ∷ es) apart = placed_rises e (sorted names es) (sorted_rises es apart.1) (sorted_all (λ f. order (at e) (at f) ≢ Equal) es apart.0)

  never_self : (a : List ℕ) → order a a ≡ Less → ⊥
  never_self a h = not_both a a h h

  -- two lists of entries with increasing keys and the same members are equal
  pub one_list : (xs ys : List Entry) → Rise names xs → Rise names ys → ((x : Entry) → In x xs → In x ys) → ((y : Entry) → In y ys → In y xs) → xs ≡ ys
  one_list [] [] h k f g = refl
  one_list [] (y ∷ ys) h k f g = absurd (g y (inl refl))
  one_list (x ∷ xs) [] h k f g = absurd (f x (inl refl))
  one_list (x ∷ xs) (y ∷ ys) h k f g =
      let head : x ≡ y = ⊎_elim (λ (p : y ≡ x). sym p)
      (λ (m : In x ys). ⊎_elim (λ (p : x ≡ y). p)
      (λ (n : In y xs). absurd (not_both (at x) (at y) (all_in (λ z. order (at x) (at z) ≡ Less) xs y h.0 n) (all_in (λ z. order (at y) (at z) ≡ Less) ys x k.0 m)))
      (g y (inl refl)))
      (f x (inl refl)) in
      let tail : xs ≡ ys = one_list xs ys h.1 k.1
      (λ z n. ⊎_elim (λ (p : y ≡ z). absurd (never_self (at x) (subst (λ w. order (at x) (at w) ≡ Less) (sym p ∙ sym head) (all_in (λ z. order (at x) (at z) ≡ Less) xs z h.0 n)))) (λ (m : In z ys). m) (f z (inr n)))
      (λ z n. ⊎_elim (λ (p : x ≡ z). absurd (never_self (at y) (subst (λ w. order (at y) (at w) ≡ Less) (sym p ∙ head) (all_in (λ z. order (at y) (at z) ≡ Less) ys z k.0 n)))) (λ (m : In z xs). m) (g z (inr n))) in
      λ i. head i ∷ tail i

-- the members of a list, by index
in_at : (xs : List Entry) (i : ℕ) (x : Entry) → i < length xs → slice_index_or xs i x ≡ x → In x xs
in_at [] i x h e = absurd (omega arith)
in_at (y ∷ ys) zero x h e = inl e
in_at (y ∷ ys) (suc i) x h e = inr (in_at ys i x (omega arith) e)

contained_in : (xs : List Entry) (x : Entry) → Contains xs x → In x xs
contained_in xs x h = in_at xs h.0 x h.1 h.2

in_contained : (xs : List Entry) (x : Entry) → In x xs → Contains xs x
in_contained [] x h = absurd h
in_contained (y ∷ ys) x h = ⊎_elim
    (λ (p : y ≡ x). (0, omega arith, p))
    (λ (m : In x ys). let r = in_contained ys x m in (r.0 + 1, omega (arith, r.1), ap (λ k. slice_index_or (y ∷ ys) k x) (let e : r.0 + 1 ≡ suc r.0 = omega arith in e) ∙ r.2))
    h

pub moved_in : (xs ys : List Entry) → IsPermutation xs ys → (x : Entry) → In x xs → In x ys
moved_in xs ys moved x h = contained_in ys x (Contains-permutation xs ys x moved (in_contained xs x h))

any_none : (p : ℕ → Bool) (ks : List ℕ) → list_any p ks ≡ false → AllByRecursion (λ k. p k ≡ false) ks
any_none p [] h = tt
any_none p (k ∷ ks) h = let r = or_parts (p k) (list_any p ks) h in (r.0, any_none p ks r.1)

none_any : (p : ℕ → Bool) (ks : List ℕ) → AllByRecursion (λ k. p k ≡ false) ks → list_any p ks ≡ false
none_any p [] h = refl
none_any p (k ∷ ks) h = rw h.0 (none_any p ks h.1)

pub distinct_keys : (ks : List ℕ) → has_duplicate ks ≡ false → IsDistinct nat_eq ks
unfolding IsDistinct
distinct_keys [] h = tt
distinct_keys (k ∷ ks) h = let r = or_parts (list_any (λ l. k == l) ks) (has_duplicate ks) h in (any_none (λ l. k == l) ks r.0, distinct_keys ks r.1)

pub no_duplicates : (ks : List ℕ) → IsDistinct nat_eq ks → has_duplicate ks ≡ false
unfolding IsDistinct
no_duplicates [] h = refl
no_duplicates (k ∷ ks) h = rw (none_any (λ l. k == l) ks h.0) (no_duplicates ks h.1)

abbrev keys_of_entries : List Entry → List ℕ
keys_of_entries es = map (λ (e : Entry). e.0) es

equal_bytes : (xs ys : List ℕ) → order xs ys ≡ Equal → xs ≡ ys
equal_bytes xs ys e = (bytes_eq-Decides xs ys).0 (sym (is_eq-slice_cmp xs ys) ∙ ap is_eq e)

equal_order : (xs ys : List ℕ) → xs ≡ ys → order xs ys ≡ Equal
equal_order xs ys e = go (order xs ys) refl (is_eq-slice_cmp xs ys ∙ (bytes_eq-Decides xs ys).1 e)
  where
    go : (o : Ordering) → order xs ys ≡ o → is_eq (order xs ys) ≡ true → order xs ys ≡ Equal
    go Less h k = absurd (true≢false (sym k ∙ ap is_eq h))
    go Equal h k = h
    go Greater h k = absurd (true≢false (sym k ∙ ap is_eq h))

module _ (names : List (List ℕ)) (apart : AreApart names) where
  abbrev Known : List Entry → Type 0
  Known es = AllByRecursion (λ (e : Entry). e.0 < length names) es

  -- keys with the same bytes are equal
  one_key : (e f : Entry) → e.0 < length names → f.0 < length names → key_bytes names e ≡ key_bytes names f → e.0 ≡ f.0
  one_key e f h k same = apart e.0 f.0 (key_bytes names f) (slice_get-get_or names e.0 [] h ∙ ap Some same) (slice_get-get_or names f.0 [] k)

  -- sorted entries have increasing keys if no two adjacent ones have the same key
  pub rises : (es : List Entry) → Known es → IsSortedBy (comes_before names) es → has_adjacent_duplicate es ≡ false → Rise names es
  rises [] known up none = tt
  rises (e ∷ []) known up none = (tt, tt)
  rises (e ∷ f ∷ fs) known up none =
      let split = or_parts (f.0 == e.0) (duplicate_after f.0 fs) none in
      let rest : Rise names (f ∷ fs) = rises (f ∷ fs) known.1 (λ k d low high. ap (λ j. comes_before names (slice_index_or (e ∷ f ∷ fs) j d) (slice_index_or (e ∷ f ∷ fs) (suc k) d)) (let i : suc (k + 1) ≡ suc k + 1 = omega arith in i) ∙ up (suc k) d (omega arith) (omega arith)) split.1 in
      let not_less : comes_before names f e ≡ false = up 0 e (omega arith) (omega arith) in
      let less : order (key_bytes names e) (key_bytes names f) ≡ Less = below e f known.0 known.1.0 not_less split.0 in
      ((less, all_map (λ g. order (key_bytes names f) (key_bytes names g) ≡ Less) (λ g. order (key_bytes names e) (key_bytes names g) ≡ Less) (λ g k. less_more names (key_bytes names e) (key_bytes names f) (key_bytes names g) less k) fs rest.0), rest)
    where
      below : (e f : Entry) → e.0 < length names → f.0 < length names → comes_before names f e ≡ false → (f.0 == e.0) ≡ false → order (key_bytes names e) (key_bytes names f) ≡ Less
      below e f h k not_less differ = go (order (key_bytes names f) (key_bytes names e)) refl
        where
          go : (o : Ordering) → order (key_bytes names f) (key_bytes names e) ≡ o → order (key_bytes names e) (key_bytes names f) ≡ Less
          go Less p = absurd (true≢false (sym (ap is_lt p) ∙ not_less))
          go Equal p = let one : f.0 ≡ e.0 = one_key f e k h (equal_bytes _ _ p) in absurd (true≢false (sym (eq-eqb f.0 e.0 one) ∙ differ))
          go Greater p = flips names (key_bytes names f) (key_bytes names e) p

  -- entries with increasing keys have no duplicate key
  pub rise_distinct : (es : List Entry) → Rise names es → IsDistinct nat_eq (keys_of_entries es)
  unfolding IsDistinct
  rise_distinct [] rise = tt
  rise_distinct (e ∷ es) rise = (go es rise.0, rise_distinct es rise.1)
    where
      go : (fs : List Entry) → AllByRecursion (λ (f : Entry). order (key_bytes names e) (key_bytes names f) ≡ Less) fs → AllByRecursion (λ k. nat_eq e.0 k ≡ false) (keys_of_entries fs)
      go [] all = tt
      go (f ∷ fs) all = (differ (nat_eq e.0 f.0) refl, go fs all.1)
        where
          differ : (b : Bool) → nat_eq e.0 f.0 ≡ b → nat_eq e.0 f.0 ≡ false
          differ true p = let one : e.0 ≡ f.0 = eqb-true e.0 f.0 p in absurd (never_self names (key_bytes names f) (subst (λ k. order (slice_index_or names k []) (key_bytes names f) ≡ Less) one all.0))
          differ false p = p

  -- without duplicate keys, no two keys have the same bytes
  pub apart_from : (es : List Entry) → Known es → IsDistinct nat_eq (keys_of_entries es) → Apart names es
  unfolding IsDistinct
  apart_from [] known distinct = tt
  apart_from (e ∷ es) known distinct = (go es known.1 distinct.0, apart_from es known.1 distinct.1)
    where
      go : (fs : List Entry) → Known fs → AllByRecursion (λ k. nat_eq e.0 k ≡ false) (keys_of_entries fs) → AllByRecursion (λ (f : Entry). order (key_bytes names e) (key_bytes names f) ≢ Equal) fs
      go [] k all = tt
      go (f ∷ fs) k all = ((λ p. true≢false (sym (eq-eqb e.0 f.0 (one_key e f known.0 k.0 (equal_bytes _ _ p))) ∙ all.0)), go fs k.1 all.1)

duplicate_there : (es : List Entry) (k : ℕ) → duplicate_after k es ≡ true → has_duplicate (k ∷ keys_of_entries es) ≡ true
duplicate_there [] k h = absurd (true≢false (sym h))
duplicate_there (e ∷ es) k h = go (e.0 == k) refl (λ m. duplicate_there es e.0 m)
  where
    go : (b : Bool) → (e.0 == k) ≡ b → (duplicate_after e.0 es ≡ true → has_duplicate (e.0 ∷ keys_of_entries es) ≡ true) → has_duplicate (k ∷ keys_of_entries (e ∷ es)) ≡ true
    go true p later = rw (let q : (k == e.0) ≡ true = eq-eqb k e.0 (sym (eqb-true e.0 k p)) in q) refl
    go false p later = or_right ((k == e.0) || list_any (λ l. k == l) (keys_of_entries es)) _ (later (rw p at h))

pub flips_eq : (x y : ℕ) → nat_eq x y ≡ nat_eq y x
flips_eq x y = both_ways (nat_eq x y) (nat_eq y x) (λ h. eq-eqb y x (sym (eqb-true x y h))) (λ h. eq-eqb x y (sym (eqb-true y x h)))

-- a permutation has a duplicate key exactly if the list has
pub moved_duplicate : (xs ys : List Entry) → IsPermutation xs ys → has_duplicate (keys_of_entries xs) ≡ has_duplicate (keys_of_entries ys)
moved_duplicate xs ys moved = both_ways _ _ (back ys xs (IsPermutation-sym xs ys moved)) (back xs ys moved)
  where
    back : (xs ys : List Entry) → IsPermutation xs ys → has_duplicate (keys_of_entries ys) ≡ true → has_duplicate (keys_of_entries xs) ≡ true
    back xs ys moved h = go (has_duplicate (keys_of_entries xs)) refl
      where
        go : (b : Bool) → has_duplicate (keys_of_entries xs) ≡ b → has_duplicate (keys_of_entries xs) ≡ true
        go true p = p
        go false p = absurd (true≢false (sym h ∙ no_duplicates (keys_of_entries ys) (IsDistinct-IsPermutation nat_eq flips_eq (keys_of_entries xs) (keys_of_entries ys) (IsPermutation-map (λ (e : Entry). e.0) xs ys moved) (distinct_keys (keys_of_entries xs) p))))

module _ (names : List (List ℕ)) (apart : AreApart names) (xs ys : List Entry) (known : All (λ (e : Entry). e.0 < length names) xs) (moved : IsPermutation xs ys) (up : IsSortedBy (comes_before names) ys) where
  known_xs : Known names apart xs
  known_xs = recursion_from_All (λ (e : Entry). e.0 < length names) xs known

  known_ys : Known names apart ys
  known_ys = recursion_from_All (λ (e : Entry). e.0 < length names) ys (All-permutation (λ (e : Entry). e.0 < length names) xs ys moved known)

  -- two adjacent sorted entries have the same key exactly if a key occurs twice
  pub sorted_duplicate : has_adjacent_duplicate ys ≡ has_duplicate (keys_of_entries xs)
  sorted_duplicate = go (has_adjacent_duplicate ys) refl ∙ sym (moved_duplicate xs ys moved)
    where
      there : (es : List Entry) → has_adjacent_duplicate es ≡ true → has_duplicate (keys_of_entries es) ≡ true
      there [] h = h
      there (e ∷ es) h = duplicate_there es e.0 h

      go : (b : Bool) → has_adjacent_duplicate ys ≡ b → has_adjacent_duplicate ys ≡ has_duplicate (keys_of_entries ys)
      go true p = p ∙ sym (there ys p)
      go false p = p ∙ sym (no_duplicates (keys_of_entries ys) (rise_distinct names apart ys (rises names apart ys known_ys up p)))

  -- without duplicate keys, the sorted entries are the stored ones, and their keys increase
  pub sorted_kept : has_duplicate (keys_of_entries xs) ≡ false → (ys ≡ sorted names xs) × Rise names ys
  sorted_kept none =
      let rise : Rise names ys = rises names apart ys known_ys up (sorted_duplicate ∙ none) in
      let kept = sorted_rises names xs (apart_from names apart xs known_xs (distinct_keys (keys_of_entries xs) none)) in (
        one_list names ys (sorted names xs) rise kept
            (λ x h. sorted_in names x xs (moved_in ys xs (IsPermutation-sym xs ys moved) x h))
            (λ x h. moved_in xs ys moved x (in_sorted names x xs h)),
        rise,
      )

-- the order in which entries are given doesn't matter
pub sorted_moved : (names : List (List ℕ)) → AreApart names → (xs ys : List Entry) → All (λ (e : Entry). e.0 < length names) xs → IsPermutation xs ys → has_duplicate (keys_of_entries xs) ≡ false → sorted names xs ≡ sorted names ys
sorted_moved names apart xs ys known moved none =
    let known_ys = All-permutation (λ (e : Entry). e.0 < length names) xs ys moved known in
    let rise_xs = sorted_rises names xs (apart_from names apart xs (recursion_from_All (λ (e : Entry). e.0 < length names) xs known) (distinct_keys (keys_of_entries xs) none)) in
    let rise_ys = sorted_rises names ys (apart_from names apart ys (recursion_from_All (λ (e : Entry). e.0 < length names) ys known_ys) (distinct_keys (keys_of_entries ys) (sym (moved_duplicate xs ys moved) ∙ none))) in
    one_list names (sorted names xs) (sorted names ys) rise_xs rise_ys
    (λ x h. sorted_in names x ys (moved_in xs ys moved x (in_sorted names x xs h)))
    (λ x h. sorted_in names x xs (moved_in ys xs (IsPermutation-sym xs ys moved) x (in_sorted names x ys h)))

-- the same, as the contract says it
pub rising_pairs : (names : List (List ℕ)) (es : List Entry) → Rise names es → IsRising names es
rising_pairs names [] rise = λ i j d h k. absurd (omega arith)
rising_pairs names (e ∷ es) rise =
    AllPairs-cons (λ a b. comes_before names a b ≡ true) e es
    (All-from_recursion (λ f. comes_before names e f ≡ true) es (all_map (λ f. order (key_bytes names e) (key_bytes names f) ≡ Less) (λ f. comes_before names e f ≡ true) (λ f h. ap is_lt h) es rise.0))
    (rising_pairs names es rise.1)

-- sorted entries are a permutation of the given ones
placed_moves : (names : List (List ℕ)) (e : Entry) (fs : List Entry) → IsPermutation (e ∷ fs) (placed_among names e fs)
placed_moves names e [] = IsPermutation-refl (e ∷ [])
placed_moves names e (f ∷ fs) = go (comes_before names e f) refl (placed_moves names e fs)
  where
    go : (b : Bool) → comes_before names e f ≡ b → IsPermutation (e ∷ fs) (placed_among names e fs) → IsPermutation (e ∷ f ∷ fs) (placed_among names e (f ∷ fs))
    go true h rest = rw h (IsPermutation-refl (e ∷ f ∷ fs))
    go false h rest = rw h (IsPermutation-trans (e ∷ f ∷ fs) (f ∷ e ∷ fs) (f ∷ placed_among names e fs) (IsPermutation-swap (e ∷ f ∷ fs) (f ∷ e ∷ fs) 0 1 (omega arith) (omega arith) refl) (IsPermutation-cons f (e ∷ fs) (placed_among names e fs) rest))

pub sorted_moves : (names : List (List ℕ)) (es : List Entry) → IsPermutation es (sorted names es)
sorted_moves names [] = IsPermutation-refl []
sorted_moves names (e ∷ es) = IsPermutation-trans (e ∷ es) (e ∷ sorted names es) (sorted names (e ∷ es)) (IsPermutation-cons e es (sorted names es) (sorted_moves names es)) (placed_moves names e (sorted names es))

-- entries with increasing keys have no duplicate key
pub rising_twinless : (names : List (List ℕ)) (es : List Entry) → IsRising names es → has_duplicate (keys_of_entries es) ≡ false
rising_twinless names es rise = no_duplicates (keys_of_entries es) (IsDistinct-from_apart nat_eq (keys_of_entries es) differ)
  where
    differ : (i j d : ℕ) → i < j → j < length (keys_of_entries es) → nat_eq (get_or (keys_of_entries es) i d) (get_or (keys_of_entries es) j d) ≡ false
    differ i j d h k = go (nat_eq (get_or (keys_of_entries es) i d) (get_or (keys_of_entries es) j d)) refl
      where
        within : j < length es
        within = omega (arith, k, length-map es (λ (e : Entry). e.0))

        at : (n : ℕ) → n < length es → get_or (keys_of_entries es) n d ≡ (get_or es n (d, d)).0
        at n l = get_or-map (λ (e : Entry). e.0) es n (d, d) d l

        go : (b : Bool) → nat_eq (get_or (keys_of_entries es) i d) (get_or (keys_of_entries es) j d) ≡ b → nat_eq (get_or (keys_of_entries es) i d) (get_or (keys_of_entries es) j d) ≡ false
        go false p = p
        go true p =
            let one : (get_or es i (d, d)).0 ≡ (get_or es j (d, d)).0 = sym (at i (omega (arith, h, within))) ∙ eqb-true _ _ p ∙ at j within in
            let less : is_lt (order (slice_index_or names ((get_or es i (d, d)).0) []) (slice_index_or names ((get_or es j (d, d)).0) [])) ≡ true = rise i j (d, d) h within in
            absurd (true≢false (sym less ∙ ap is_lt (equal_order _ _ (ap (λ n. slice_index_or names n []) one))))
