-- Lists without duplicates, by the ranks of their entries.
use Rattle.std.proofs.Common.{◌≡◌, refl, ap, sym, ◌∙◌, ℕ, zero, suc, ◌+◌, ◌<◌, inl, inr, Bool, true, false, cond, eqb, eqb-true, eq-eqb, List, [], ◌∷◌, true≢false, arith, length, Some, None}
use Rattle.std.specs.List.{IsDistinct}
use Rattle.std.proofs.lemmas.Map.Keys.{IsDistinct-tail}
use Rattle.ir_event.proofs.of_trees.Returns.{absent_first}
use Rattle.ir_event.specs.tree_laws.Reads.{comes_after}
use Rattle.ir_event.proofs.of_tree_laws.Listed.{bool_cases}
use Rattle.greedy.specs.Following.{first_id, comes_next}
use Rattle.greedy.specs.Work.{count_after}
use Rattle.greedy.proofs.Listed.{listed_past, listed_at, listed_more, after_at, after_past, second_there}
use Rattle.greedy.specs.LocalContext.{is_listed}

-- the index of a number in a list
abbrev pub rank : ℕ → List ℕ → ℕ
rank a [] = zero
rank a (x ∷ xs) = cond (eqb x a) zero (suc (rank a xs))

rank_at : (x a : ℕ) (xs : List ℕ) → eqb x a ≡ true → rank a (x ∷ xs) ≡ zero
rank_at x a xs e = ap (λ b. cond b zero (suc (rank a xs))) e

rank_past : (x a : ℕ) (xs : List ℕ) → eqb x a ≡ false → rank a (x ∷ xs) ≡ suc (rank a xs)
rank_past x a xs e = ap (λ b. cond b zero (suc (rank a xs))) e

pub below : (a : ℕ) (xs : List ℕ) → is_listed a xs ≡ true → rank a xs < length xs
below a [] h = absurd (true≢false (sym h))
below a (x ∷ xs) h = elim (bool_cases (eqb x a)) [
  | inl e ↦ omega (arith, rank_at x a xs e)
  | inr e ↦ omega (arith, rank_past x a xs e, below a xs (listed_past x a xs e h))
]

pub same_rank : (a b : ℕ) (xs : List ℕ) → is_listed a xs ≡ true → is_listed b xs ≡ true → rank a xs ≡ rank b xs → a ≡ b
same_rank a b [] h k e = absurd (true≢false (sym h))
same_rank a b (x ∷ xs) h k e = elim (bool_cases (eqb x a)) [
  | inl p ↦ elim (bool_cases (eqb x b)) [
    | inl q ↦ sym (eqb-true x a p) ∙ eqb-true x b q
    | inr q ↦ absurd (let r = rank_at x a xs p in let s = rank_past x b xs q in omega (arith, r, s, e))
  ]
  | inr p ↦ elim (bool_cases (eqb x b)) [
    | inl q ↦ absurd (let r = rank_past x a xs p in let s = rank_at x b xs q in omega (arith, r, s, e))
    | inr q ↦ same_rank a b xs (listed_past x a xs p h) (listed_past x b xs q k) (let r = rank_past x a xs p in let s = rank_past x b xs q in omega (arith, r, s, e))
  ]
]

-- the first entry of such a list occurs once
once : (x b : ℕ) (xs : List ℕ) → IsDistinct eqb (x ∷ xs) → is_listed b xs ≡ true → eqb x b ≡ false
once x b xs d h = elim (bool_cases (eqb x b)) [
  | inr e ↦ e
  | inl e ↦ absurd (true≢false (sym h ∙ ap (λ z. is_listed z xs) (sym (eqb-true x b e)) ∙ absent_first x xs d))
]

pub rises : (a b : ℕ) (xs : List ℕ) → IsDistinct eqb xs → comes_after a b xs ≡ true → rank a xs < rank b xs
rises a b [] d h = absurd (true≢false (sym h))
rises a b (x ∷ xs) d h = elim (bool_cases (eqb x a)) [
  | inl e ↦
      let s = rank_past x b xs (once x b xs d (sym (after_at a b x xs e) ∙ h)) in
      omega (arith, rank_at x a xs e, s)
  | inr e ↦
      let k = sym (after_past a b x xs e) ∙ h in
      let s = rank_past x b xs (once x b xs d (second_there a b xs k)) in
      omega (arith, rank_past x a xs e, s, rises a b xs (IsDistinct-tail eqb x xs d) k)
]

pub after_from_rank : (a b : ℕ) (xs : List ℕ) → is_listed a xs ≡ true → is_listed b xs ≡ true → rank a xs < rank b xs → comes_after a b xs ≡ true
after_from_rank a b [] h k l = absurd (true≢false (sym h))
after_from_rank a b (x ∷ xs) h k l = elim (bool_cases (eqb x b)) [
  | inl f ↦ absurd (let s = rank_at x b xs f in omega (arith, s, l))
  | inr f ↦ elim (bool_cases (eqb x a)) [
    | inl e ↦ after_at a b x xs e ∙ listed_past x b xs f k
    | inr e ↦ after_past a b x xs e ∙ after_from_rank a b xs (listed_past x a xs e h) (listed_past x b xs f k) (let r = rank_past x a xs e in let s = rank_past x b xs f in omega (arith, r, s, l))
  ]
]

-- the next entry
pub first_next : (a y x : ℕ) (xs : List ℕ) → first_id (x ∷ xs) ≡ Some y → x ≡ y
first_next a y x xs e = ap (λ o. elim o as (λ _. ℕ) [ None ↦ zero | Some z ↦ z ]) e

first_listed : (y : ℕ) (xs : List ℕ) → first_id xs ≡ Some y → (is_listed y xs ≡ true) × (rank y xs ≡ zero)
first_listed y [] e = absurd (some_none e)
  where
    some_none : None ≡ Some y → ⊥
    some_none e = true≢false (sym (ap (λ o. elim o as (λ _. Bool) [ None ↦ false | Some z ↦ true ]) e))
first_listed y (x ∷ xs) e = let s = eq-eqb x y (first_next y y x xs e) in (listed_at x y xs s, rank_at x y xs s)

pub next_there : (a y : ℕ) (xs : List ℕ) → comes_next a xs ≡ Some y → is_listed y xs ≡ true
next_there a y [] e = (first_listed y [] e).0
next_there a y (x ∷ xs) e = elim (bool_cases (eqb x a)) [
  | inl k ↦ listed_more x y xs (first_listed y xs (sym (ap (λ b. cond b (first_id xs) (comes_next a xs)) k) ∙ e)).0
  | inr k ↦ listed_more x y xs (next_there a y xs (sym (ap (λ b. cond b (first_id xs) (comes_next a xs)) k) ∙ e))
]

pub next_rank : (a y : ℕ) (xs : List ℕ) → IsDistinct eqb xs → comes_next a xs ≡ Some y → rank y xs ≡ suc (rank a xs)
next_rank a y [] d e = absurd (true≢false (sym (first_listed y [] e).0))
next_rank a y (x ∷ xs) d e = elim (bool_cases (eqb x a)) [
  | inl k ↦
      let f = first_listed y xs (sym (ap (λ b. cond b (first_id xs) (comes_next a xs)) k) ∙ e) in
      omega (arith, rank_at x a xs k, rank_past x y xs (once x y xs d f.0), f.1)
  | inr k ↦
      let h = sym (ap (λ b. cond b (first_id xs) (comes_next a xs)) k) ∙ e in
      omega (arith, rank_past x a xs k, rank_past x y xs (once x y xs d (next_there a y xs h)), next_rank a y xs (IsDistinct-tail eqb x xs d) h)
]

some_first : (b : ℕ) (xs : List ℕ) → first_id xs ≡ None → is_listed b xs ≡ false
some_first b [] e = refl
some_first b (x ∷ xs) e = absurd (true≢false (ap (λ o. elim o as (λ _. Bool) [ None ↦ false | Some z ↦ true ]) e))

pub next_none : (a b : ℕ) (xs : List ℕ) → comes_next a xs ≡ None → comes_after a b xs ≡ false
next_none a b [] e = refl
next_none a b (x ∷ xs) e = elim (bool_cases (eqb x a)) [
  | inl k ↦ after_at a b x xs k ∙ some_first b xs (sym (ap (λ c. cond c (first_id xs) (comes_next a xs)) k) ∙ e)
  | inr k ↦ after_past a b x xs k ∙ next_none a b xs (sym (ap (λ c. cond c (first_id xs) (comes_next a xs)) k) ∙ e)
]

pub counted : (a : ℕ) (xs : List ℕ) → is_listed a xs ≡ true → rank a xs + 1 + count_after a xs ≡ length xs
counted a [] h = absurd (true≢false (sym h))
counted a (x ∷ xs) h = elim (bool_cases (eqb x a)) [
  | inl e ↦ let c : count_after a (x ∷ xs) ≡ length xs = ap (λ b. cond b (length xs) (count_after a xs)) e in omega (arith, rank_at x a xs e, c)
  | inr e ↦ let c : count_after a (x ∷ xs) ≡ count_after a xs = ap (λ b. cond b (length xs) (count_after a xs)) e in omega (arith, rank_past x a xs e, c, counted a xs (listed_past x a xs e h))
]
