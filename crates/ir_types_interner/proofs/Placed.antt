-- The index of an item in a list.
use Rattle.std.proofs.Common.{◌≡◌, refl, sym, ap, ◌∙◌, ℕ, zero, suc, ◌+◌, ◌<◌, ◌≤◌, Bool, true, false, cond, List, [], ◌∷◌, ◌++◌, length, Option, Some, None, slice_get, ◌⊎◌, inl, inr, ⊎_elim, arith, is_some, lt-ltb, ltb-true}
use Rattle.std.specs.Prelude.{not, nat_lt, ◌||◌}
use Rattle.std.specs.Map.{keys_of}
use Rattle.std.specs.List.{position, position_or_len, list_any}
use Rattle.std.proofs.lemmas.List.{map-append}
use Rattle.ir_types_interner.specs.Interned.{with_last}
use Rattle.std.proofs.lemmas.Option.{same_Some}

abbrev pub Found : {V : Type 0} → (V → Bool) → List V → Type 0
Found p ks = (list_any p ks ≡ true) × (position_or_len p ks < length ks)

abbrev pub Lacks : {V : Type 0} → (V → Bool) → List V → Type 0
Lacks p ks = (list_any p ks ≡ false) × (position_or_len p ks ≡ length ks)

pub where_is : {V : Type 0} (p : V → Bool) (ks : List V) → Found p ks ⊎ Lacks p ks
where_is p [] = inr (refl, refl)
where_is p (k ∷ ks) = (elim (p k) as (λ t. (((t || list_any p ks) ≡ true) × (cond (not t) (1 + position_or_len p ks) 0 < suc (length ks))) ⊎ (((t || list_any p ks) ≡ false) × (cond (not t) (1 + position_or_len p ks) 0 ≡ suc (length ks))))
    [ true ↦ inl (refl, omega arith) | false ↦ ⊎_elim (λ (h : Found p ks). inl (h.0, omega (arith, h.1))) (λ (h : Lacks p ks). inr (h.0, omega (arith, h.1))) (where_is p ks) ])

none_some : (a : ℕ) → Some a ≡ None → ⊥
none_some a e = cc

past : (a n : ℕ) {i : ℕ} → a ≡ n → cond (nat_lt a n) (Some a) None ≡ Some i → ⊥
past a n e g = by (nat_lt a n) refl g
  where
    by : (t : Bool) → nat_lt a n ≡ t → {i : ℕ} → cond t (Some a) None ≡ Some i → ⊥
    by true h g = absurd (omega (arith, ltb-true a n h, e))
    by false h g = absurd cc

module _ {V : Type 0} (p : V → Bool) where
  -- the facts from a search that found an index
  pub found_at : (ks : List V) (i : ℕ) → position p ks ≡ Some i → (list_any p ks ≡ true) × (i ≡ position_or_len p ks)
  found_at ks i e = ⊎_elim
      (λ (h : Found p ks). (h.0, sym (same_Some _ _ (sym (rw (lt-ltb _ _ h.1) refl) ∙ e))))
      (λ (h : Lacks p ks). absurd (past _ _ h.1 e))
      (where_is p ks)

  -- the facts from a search that found none
  pub absent_from : (ks : List V) → position p ks ≡ None → (list_any p ks ≡ false) × (position_or_len p ks ≡ length ks)
  absent_from ks e = ⊎_elim
      (λ (h : Found p ks). absurd (none_some (position_or_len p ks) (sym (rw (lt-ltb _ _ h.1) refl) ∙ e)))
      (λ (h : Lacks p ks). h)
      (where_is p ks)

pub none_from_test : {A : Type 0} (o : Option A) → is_some o ≡ false → o ≡ None
none_from_test None e = refl
none_from_test (Some x) e = absurd cc

pub keys-push : {K V : Type 0} (es : List (K × V)) (k : K) (v : V) → keys_of (es ++ (k, v) ∷ []) ≡ keys_of es ++ k ∷ []
keys-push es k v = map-append (λ e. e.0) es ((k, v) ∷ [])

-- the list, if the item is in it, and if it isn't
pub with_last-found : {A : Type 0} (p : A → Bool) (x : A) (xs : List A) → list_any p xs ≡ true → with_last p x xs ≡ xs
with_last-found p x xs h = rw h refl

pub with_last-absent : {A : Type 0} (p : A → Bool) (x : A) (xs : List A) → list_any p xs ≡ false → with_last p x xs ≡ xs ++ x ∷ []
with_last-absent p x xs h = rw h refl

-- if a search has passed all earlier items, the item is at this index or after it
module _ {K V : Type 0} (p : K → Bool) where
  pub is_here : (es : List (K × V)) (i : ℕ) (e : K × V) → slice_get es i ≡ Some e → i ≤ position_or_len p (keys_of es) → p e.0 ≡ true → (list_any p (keys_of es) ≡ true) × (i ≡ position_or_len p (keys_of es))
  is_here [] i e h b t = absurd cc
  is_here (x ∷ es) zero e h b t = rw (ap (λ y. p y.0) (same_Some _ _ h) ∙ t) (refl, refl)
  is_here (x ∷ es) (suc i) e h b t = by (p x.0) b (λ b. is_here es i e h b t)
    where
      by : (q : Bool) → suc i ≤ cond (not q) (1 + position_or_len p (keys_of es)) 0 → (i ≤ position_or_len p (keys_of es) → (list_any p (keys_of es) ≡ true) × (i ≡ position_or_len p (keys_of es))) → ((q || list_any p (keys_of es)) ≡ true) × (suc i ≡ cond (not q) (1 + position_or_len p (keys_of es)) 0)
      by true b next = absurd (omega (arith, b))
      by false b next = let s = next (omega (arith, b)) in (s.0, omega (arith, s.1))

  pub is_past : (es : List (K × V)) (i : ℕ) (e : K × V) → slice_get es i ≡ Some e → i ≤ position_or_len p (keys_of es) → p e.0 ≡ false → suc i ≤ position_or_len p (keys_of es)
  is_past [] i e h b t = absurd cc
  is_past (x ∷ es) zero e h b t = rw (ap (λ y. p y.0) (same_Some _ _ h) ∙ t) (omega arith)
  is_past (x ∷ es) (suc i) e h b t = by (p x.0) b (λ b. is_past es i e h b t)
    where
      by : (q : Bool) → suc i ≤ cond (not q) (1 + position_or_len p (keys_of es)) 0 → (i ≤ position_or_len p (keys_of es) → suc i ≤ position_or_len p (keys_of es)) → suc (suc i) ≤ cond (not q) (1 + position_or_len p (keys_of es)) 0
      by true b next = absurd (omega (arith, b))
      by false b next = let s = next (omega (arith, b)) in omega (arith, s)
