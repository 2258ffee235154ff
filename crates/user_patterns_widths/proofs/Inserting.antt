-- The insertion of a place into an ordered list.
use Rattle.std.proofs.Common.{◌≡◌, ℕ, ◌∷◌, ◌++◌, List, [], Bool, true, false, Some, None, cond, nat_le, nat_lt, refl, sym, ap, ◌∙◌, inl, inr, arith, length, get_or, ◌-◌, ◌≤◌, ◌+◌, suc, not, take, drop}
use Rattle.std.proofs.lemmas.Bool.{cases_Bool}
use Rattle.std.proofs.lemmas.Bool.Decides.{nat_tests}
use Rattle.std.proofs.lemmas.List.{take_all}
use Rattle.std.proofs.lemmas.List.Edits.{insert_end}
use Rattle.std.proofs.lemmas.List.Sums.{prefix_len-le-length}
use Rattle.std.specs.List.{insert, position, position_or_len}
use Rattle.ir_types.proofs.Truths.{if_some}
use Rattle.user_patterns_widths.specs.Polynomials.{inserted, joined}

-- an element at the front shifts the insertion by one
insert_after : (x i : ℕ) (xs : List ℕ) (n : ℕ) → insert (x ∷ xs) (1 + n) i ≡ x ∷ insert xs n i
insert_after x i xs n = let e : 1 + n ≡ suc n = omega arith in rw e refl

-- insertion before the first place that isn't smaller
pub inserted_there : (i : ℕ) (xs : List ℕ) → insert xs (position_or_len (nat_le i) xs) i ≡ inserted i xs
inserted_there i [] = refl
inserted_there i (j ∷ js) = elim (cases_Bool (nat_le i j)) [
  | inl e ↦ rw e refl
  | inr e ↦ rw e (insert_after j i js _ ∙ ap (λ xs. j ∷ xs) (inserted_there i js))
]

no_number : (b : Bool) (n : ℕ) → cond b (Some n) None ≡ None → b ≡ false
no_number true n e = absurd cc
no_number false n e = refl

all_passed : (n m : ℕ) → n ≤ m → nat_lt n m ≡ false → n ≡ m
all_passed n m le e = grind (arith, nat_tests)

-- if there is such a place, and if there is none
pub inserted_at : (i : ℕ) (xs : List ℕ) (k : ℕ) → position (nat_le i) xs ≡ Some k → insert xs k i ≡ inserted i xs
inserted_at i xs k e = ap (λ n. insert xs n i) (sym (if_some _ _ k e).1) ∙ inserted_there i xs

pub inserted_last : (i : ℕ) (xs : List ℕ) → position (nat_le i) xs ≡ None → xs ++ i ∷ [] ≡ inserted i xs
inserted_last i xs e =
    let n = position_or_len (nat_le i) xs in
    let ends : n ≡ length xs = all_passed n (length xs) (prefix_len-le-length (λ x. not (nat_le i x)) xs) (no_number (nat_lt n (length xs)) n e) in
    sym (insert_end xs i) ∙ ap (λ k. insert xs k i) (sym ends) ∙ inserted_there i xs

-- two insertions commute
pub inserted_both : (i j : ℕ) (xs : List ℕ) → inserted i (inserted j xs) ≡ inserted j (inserted i xs)
inserted_both i j [] = grind (arith, nat_tests)
inserted_both i j (x ∷ xs) = grind (arith, nat_tests, inserted_both i j xs)

-- so the first may be inserted first
pub joined_first : (i : ℕ) (is js : List ℕ) → joined is (inserted i js) ≡ inserted i (joined is js)
joined_first i [] js = refl
joined_first i (k ∷ is) js = ap (inserted k) (joined_first i is js) ∙ inserted_both k i (joined is js)

pub joined_next : (is js : List ℕ) → 1 ≤ length is → joined (take (length is - 1) (drop 1 is)) (inserted (get_or is 0 0) js) ≡ joined is js
joined_next [] js l = absurd (omega (arith, l))
joined_next (i ∷ is) js l = ap (λ rest. joined rest (inserted i js)) (take_all (length (i ∷ is) - 1) is (omega arith)) ∙ joined_first i is js
