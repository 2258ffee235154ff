-- Widths and the limit of numbers.
use Rattle.std.proofs.Common.{◌≡◌, ℕ, ◌+◌, ◌-◌, ◌*◌, ◌<◌, ◌≤◌, Bool, true, false, not, cond, List, [], ◌∷◌, length, get_or, Option, Some, None, refl, ap, ◌∙◌, arith}
use Rattle.std.specs.Prelude.{◌&&◌, ◌==◌}
use Rattle.std.specs.List.{list_all}
use Rattle.std.specs.Char.{is_ascii_digit}
use Rattle.std.proofs.lemmas.Bool.Decides.{nat_tests}
use Rattle.ir_text_tokens.specs.Numbers.{below_limit, integer_of, place_value}
use Rattle.ir_text_tokens.proofs.Places.{is_below}
use Rattle.ir_types.specs.Reasons.{is_width}
use Rattle.ir_text_types.specs.Scalars.{begins_zero, width_of, within}
use Rattle.std.proofs.lemmas.Bool.{and_parts}

-- a number within the limit is returned
pub limit_is : (n w : ℕ) → below_limit n ≡ Some w → n ≡ w
limit_is n w e = grind (arith, nat_tests)

-- a number over the limit is no width
pub limit_passed : (n : ℕ) → below_limit n ≡ None → within n ≡ None
limit_passed n e = grind (arith, nat_tests)

-- ---- two digits

digit_most : (c : ℕ) → is_ascii_digit c ≡ true → c ≤ 57
digit_most c e = grind (arith, nat_tests)

two_digits : (a b : ℕ) → is_ascii_digit a ≡ true → is_ascii_digit b ≡ true → (a == 48) ≡ false → below_limit (integer_of (a ∷ b ∷ [])) ≡ Some ((a - 48) * 10 + (b - 48))
unfolding place_value
two_digits a b d e z =
    let n : integer_of (a ∷ b ∷ []) ≡ (a - 48) * 10 + (b - 48) = rw (z, d, e) (omega arith) in
    rw n (is_below ((a - 48) * 10 + (b - 48)) (omega (arith, digit_most a d, digit_most b e)))

-- the value of two digits without a leading zero
pub two_value : (ds : List ℕ) → 2 ≤ length ds → length ds < 3 → list_all is_ascii_digit ds ≡ true → begins_zero ds ≡ false → below_limit (integer_of ds) ≡ Some ((get_or ds 0 0 - 48) * 10 + (get_or ds 1 0 - 48))
two_value [] l m all dimension_or_any = absurd (omega (arith, l))
two_value (a ∷ []) l m all dimension_or_any = absurd (omega (arith, l))
two_value (a ∷ b ∷ []) l m all dimension_or_any =
    let p = and_parts (is_ascii_digit a) (is_ascii_digit b && true) all in
    two_digits a b p.0 (and_parts (is_ascii_digit b) true p.1).0 dimension_or_any
two_value (a ∷ b ∷ c ∷ ds) l m all dimension_or_any = absurd (omega (arith, m))

-- two such digits denote a number
two_number : (a b : ℕ) → is_ascii_digit a ≡ true → is_ascii_digit b ≡ true → (a == 48) ≡ false → integer_of (a ∷ b ∷ []) ≡ (a - 48) * 10 + (b - 48)
unfolding place_value
two_number a b d e z = rw (z, d, e) (omega arith)

when : (t : Bool) (x : Option ℕ) → t ≡ true → cond t x None ≡ x
when true x h = refl
when false x h = absurd cc

pub two_width : (a b : ℕ) → is_ascii_digit a ≡ true → is_ascii_digit b ≡ true → (a == 48) ≡ false → width_of (a ∷ b ∷ []) ≡ Some ((a - 48) * 10 + (b - 48))
two_width a b d e z =
    let low : 49 ≤ a = grind (arith, nat_tests) in
    let w : is_width ((a - 48) * 10 + (b - 48)) ≡ true = grind (arith, nat_tests, digit_most a d, digit_most b e) in
    let test : (not (begins_zero (a ∷ b ∷ [])) && list_all is_ascii_digit (a ∷ b ∷ [])) ≡ true = rw (z, d, e) refl in
    when (not (begins_zero (a ∷ b ∷ [])) && list_all is_ascii_digit (a ∷ b ∷ [])) (within (integer_of (a ∷ b ∷ []))) test
    ∙ ap within (two_number a b d e z)
    ∙ when (is_width ((a - 48) * 10 + (b - 48))) (Some ((a - 48) * 10 + (b - 48))) w

-- ---- one digit

one_number : (a : ℕ) → is_ascii_digit a ≡ true → integer_of (a ∷ []) ≡ a - 48
unfolding place_value
one_number a d = rw d (omega arith)

pub one_width : (a : ℕ) → is_ascii_digit a ≡ true → (a == 48) ≡ false → width_of (a ∷ []) ≡ Some (a - 48)
one_width a d z =
    let low : 49 ≤ a = grind (arith, nat_tests) in
    let w : is_width (a - 48) ≡ true = grind (arith, nat_tests, digit_most a d) in
    let test : (not (begins_zero (a ∷ [])) && list_all is_ascii_digit (a ∷ [])) ≡ true = rw (z, d) refl in
    when (not (begins_zero (a ∷ [])) && list_all is_ascii_digit (a ∷ [])) (within (integer_of (a ∷ []))) test
    ∙ ap within (one_number a d)
    ∙ when (is_width (a - 48)) (Some (a - 48)) w
