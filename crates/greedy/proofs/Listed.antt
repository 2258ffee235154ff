-- The order of the entries of a list.
use Rattle.std.proofs.Common.{◌≡◌, ap, sym, ◌∙◌, ℕ, Bool, true, false, cond, ◌||◌, eqb, List, [], ◌∷◌, true≢false, inl, inr}
use Rattle.std.specs.List.{list_any}
use Rattle.ir_event.specs.tree_laws.Reads.{comes_after}
use Rattle.std.proofs.lemmas.Bool.{cases_Bool}

-- whether a is in a list
abbrev pub is_listed : ℕ → List ℕ → Bool
is_listed a xs = list_any (λ y. eqb y a) xs

-- a is in a list
abbrev pub Listed : ℕ → List ℕ → Type 0
Listed a xs = is_listed a xs ≡ true

pub listed_past : (x a : ℕ) (xs : List ℕ) → eqb x a ≡ false → Listed a (x ∷ xs) → Listed a xs
listed_past x a xs e h = sym (ap (λ b. b || list_any (λ y. eqb y a) xs) e) ∙ h

pub listed_at : (x a : ℕ) (xs : List ℕ) → eqb x a ≡ true → Listed a (x ∷ xs)
listed_at x a xs e = ap (λ b. b || list_any (λ y. eqb y a) xs) e

pub listed_more : (x a : ℕ) (xs : List ℕ) → Listed a xs → Listed a (x ∷ xs)
listed_more x a xs h = elim (cases_Bool (eqb x a)) [ inl e ↦ listed_at x a xs e | inr e ↦ ap (λ b. b || list_any (λ y. eqb y a) xs) e ∙ h ]

-- if one entry comes after another, both are in the list
pub after_at : (a b x : ℕ) (xs : List ℕ) → eqb x a ≡ true → comes_after a b (x ∷ xs) ≡ list_any (λ y. eqb y b) xs
after_at a b x xs e = ap (λ c. cond c (list_any (λ y. eqb y b) xs) (comes_after a b xs)) e

pub after_past : (a b x : ℕ) (xs : List ℕ) → eqb x a ≡ false → comes_after a b (x ∷ xs) ≡ comes_after a b xs
after_past a b x xs e = ap (λ c. cond c (list_any (λ y. eqb y b) xs) (comes_after a b xs)) e

pub first_there : (a b : ℕ) (xs : List ℕ) → comes_after a b xs ≡ true → Listed a xs
first_there a b [] h = absurd (true≢false (sym h))
first_there a b (x ∷ xs) h = elim (cases_Bool (eqb x a)) [
  | inl e ↦ listed_at x a xs e
  | inr e ↦ listed_more x a xs (first_there a b xs (sym (after_past a b x xs e) ∙ h))
]

pub second_there : (a b : ℕ) (xs : List ℕ) → comes_after a b xs ≡ true → Listed b xs
second_there a b [] h = absurd (true≢false (sym h))
second_there a b (x ∷ xs) h = elim (cases_Bool (eqb x a)) [
  | inl e ↦ listed_more x b xs (sym (after_at a b x xs e) ∙ h)
  | inr e ↦ listed_more x b xs (second_there a b xs (sym (after_past a b x xs e) ∙ h))
]
