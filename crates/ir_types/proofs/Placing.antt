-- The index of an item in the list that has it.
use Rattle.std.specs.List.{list_any, position_or_len}
use Rattle.std.proofs.Common.{◌≡◌, ℕ, zero, suc, ◌+◌, ◌≤◌, Bool, true, false, true≢false, List, [], ◌∷◌, ◌++◌, Some, length, slice_get, sym, ap, subst, refl, ◌∙◌, ◌⊎◌, inl, inr, ⊎_elim, length-append, arith}
use Rattle.std.proofs.lemmas.List.{append-nil}
use Rattle.ir_types_interner.specs.Interned.{with_last, AreApart}
use Rattle.ir_types_interner.proofs.Placed.{Found, Lacks, where_is, with_last-found, with_last-absent}
use Rattle.ir_types.specs.Things.{IsPreceding}
use Rattle.ir_types.proofs.Building.{push_cases, nothing_at, last_place}
use Rattle.std.proofs.lemmas.Bool.{cases_Bool}

module _ {A : Type 0} (p : A → Bool) (x : A) where
  -- the list is unchanged, or has the item appended
  pub with_last-cases : (xs : List A) → ((list_any p xs ≡ true) × (with_last p x xs ≡ xs)) ⊎ ((list_any p xs ≡ false) × (with_last p x xs ≡ xs ++ x ∷ []))
  with_last-cases xs = ⊎_elim (λ h. inl (h, with_last-found p x xs h)) (λ h. inr (h, with_last-absent p x xs h)) (cases_Bool (list_any p xs))

  pub with_last_preceding : (xs : List A) → IsPreceding xs (with_last p x xs)
  with_last_preceding xs = ⊎_elim
      (λ (h : (list_any p xs ≡ true) × (with_last p x xs ≡ xs)). ([], h.1 ∙ sym (append-nil xs)))
      (λ (h : (list_any p xs ≡ false) × (with_last p x xs ≡ xs ++ x ∷ [])). (x ∷ [], h.1))
      (with_last-cases xs)

  -- the list is longer by at most one item
  pub length-with_last : (xs : List A) → (length xs ≤ length (with_last p x xs)) × (length (with_last p x xs) ≤ length xs + 1)
  length-with_last xs = ⊎_elim
      (λ (h : (list_any p xs ≡ true) × (with_last p x xs ≡ xs)). let e = ap length h.1 in (omega arith, omega arith))
      (λ (h : (list_any p xs ≡ false) × (with_last p x xs ≡ xs ++ x ∷ [])). let e = ap length h.1 ∙ length-append xs (x ∷ []) in (omega arith, omega arith))
      (with_last-cases xs)

module _ {A : Type 0} (same : A → A → Bool) (is : (x y : A) → same x y ≡ true → x ≡ y) where
  -- an item that is found is in the list, at that index
  pub found_there : (x : A) (xs : List A) → list_any (same x) xs ≡ true → slice_get xs (position_or_len (same x) xs) ≡ Some x
  found_there x [] h = absurd (true≢false (sym h))
  found_there x (y ∷ ys) h = ⊎_elim
      (λ (e : same x y ≡ true). rw e (ap Some (sym (is x y e))))
      (λ (e : same x y ≡ false).
      let later : list_any (same x) ys ≡ true = rw e at h in
      let next : 1 + position_or_len (same x) ys ≡ suc (position_or_len (same x) ys) = omega arith in
      rw e (rw next (found_there x ys later)))
      (cases_Bool (same x y))

  pub stands : (x : A) (xs : List A) → slice_get (with_last (same x) x xs) (position_or_len (same x) xs) ≡ Some x
  stands x xs = ⊎_elim
      (λ (h : Found (same x) xs). ap (λ l. slice_get l (position_or_len (same x) xs)) (with_last-found (same x) x xs h.0) ∙ found_there x xs h.0)
      (λ (h : Lacks (same x) xs). ap (λ l. slice_get l (position_or_len (same x) xs)) (with_last-absent (same x) x xs h.0) ∙ ap (slice_get (xs ++ x ∷ [])) h.1 ∙ last_place xs x)
      (where_is (same x) xs)

  module _ (itself : (x : A) → same x x ≡ true) where
    -- an item of the list is found
    pub known_found : (x : A) (xs : List A) (n : ℕ) → slice_get xs n ≡ Some x → list_any (same x) xs ≡ true
    known_found x [] n at = absurd (nothing_at n x at)
    known_found x (y ∷ ys) zero at =
        let e : y ≡ x = cc in
        let k : same x y ≡ true = ap (same x) e ∙ itself x in
        rw k refl
    known_found x (y ∷ ys) (suc n) at = ⊎_elim
        (λ (e : same x y ≡ true). rw e refl)
        (λ (e : same x y ≡ false). rw e (known_found x ys n at))
        (cases_Bool (same x y))

    -- so the list is unchanged
    pub known_stays : (x : A) (xs : List A) (n : ℕ) → slice_get xs n ≡ Some x → with_last (same x) x xs ≡ xs
    known_stays x xs n at = with_last-found (same x) x xs (known_found x xs n at)

    -- the item has one index
    pub known_place : (x : A) (xs : List A) (n : ℕ) → AreApart xs → slice_get xs n ≡ Some x → position_or_len (same x) xs ≡ n
    known_place x xs n apart at = apart _ n x (found_there x xs (known_found x xs n at)) at

    -- an item that isn't found isn't in the list
    pub absent_nowhere : (x : A) (xs : List A) (n : ℕ) → list_any (same x) xs ≡ false → slice_get xs n ≡ Some x → ⊥
    absent_nowhere x xs n h at = true≢false (sym (known_found x xs n at) ∙ h)

    -- so the list stays free of duplicates
    pub apart_with : (x : A) (xs : List A) → AreApart xs → AreApart (with_last (same x) x xs)
    apart_with x xs apart = ⊎_elim
        (λ (h : (list_any (same x) xs ≡ true) × (with_last (same x) x xs ≡ xs)). subst AreApart (sym h.1) apart)
        (λ (h : (list_any (same x) xs ≡ false) × (with_last (same x) x xs ≡ xs ++ x ∷ [])). subst AreApart (sym h.1) (λ i j y a b.
        ⊎_elim
        (λ (p : slice_get xs i ≡ Some y). ⊎_elim
        (λ (q : slice_get xs j ≡ Some y). apart i j y p q)
        (λ (q : (j ≡ length xs) × (x ≡ y)). absurd (absent_nowhere x xs i h.0 (p ∙ ap Some (sym q.1))))
        (push_cases xs x y j b))
        (λ (p : (i ≡ length xs) × (x ≡ y)). ⊎_elim
        (λ (q : slice_get xs j ≡ Some y). absurd (absent_nowhere x xs j h.0 (q ∙ ap Some (sym p.1))))
        (λ (q : (j ≡ length xs) × (x ≡ y)). omega arith)
        (push_cases xs x y j b))
        (push_cases xs x y i a)))
        (with_last-cases (same x) x xs)
