-- Printed numbers and names parse as themselves.
use Rattle.std.proofs.Common.{◌≡◌, ℕ, ◌^◌, ◌<◌, List, [], ◌∷◌, ◌++◌, length, true, false, Some, refl, ap, arith}
use Rattle.std.specs.Prelude.{◌==◌, nat_lt}
use Rattle.std.specs.Char.{is_ascii_digit}
use Rattle.std.specs.Fmt.{decimal}
use Rattle.std.specs.Str.{all_ascii_digits}
use Rattle.std.proofs.Common.{rules}
use Rattle.std.proofs.lemmas.Bool.Decides.{nat_tests}
use Rattle.std.proofs.lemmas.Fmt.{digits_decimal, digits_value-decimal, decimal_nonempty}
use Rattle.std.proofs.lemmas.Str.Parse.{IsNumeralModel, numerals_by_fold, tells_all_ascii_digits}
use Rattle.ir_event.specs.trees.declared.value.Value.TheVariants.{Result, Arg}
use Rattle.mlir_work_script_base.specs.Cuts.{before, after}
use Rattle.mlir_work_script_base.specs.Numbers.{value_after, number_of}
use Rattle.mlir_work_script_base.specs.Values.{is_dot, op_of, op_text, value_of, value_text}
use Rattle.std.proofs.lemmas.Bool.{lt-ltb, and_parts}

-- the library's lemmas about numerals apply to this parser
pub numerals : IsNumeralModel (λ ds. all_ascii_digits ds ≡ true) (value_after 0)
numerals = numerals_by_fold _ tells_all_ascii_digits value_after (search rules)

not_empty : (n : ℕ) → 0 < n → (n == 0) ≡ false
not_empty n h = grind (arith, nat_tests)

wide : (n : ℕ) → n < 2 ^ 32 → n < 2 ^ 64
wide n h = omega arith

pub number_again : (n : ℕ) → n < 2 ^ 32 → number_of (decimal n) ≡ Some n
number_again n h =
    let digits : all_ascii_digits (decimal n) ≡ true = digits_decimal numerals n (wide n h) in
    let value : value_after 0 (decimal n) ≡ n = digits_value-decimal numerals n (wide n h) in
    let some : (length (decimal n) == 0) ≡ false = not_empty (length (decimal n)) (decimal_nonempty n (wide n h)) in
    let small : nat_lt n (2 ^ 32) ≡ true = lt-ltb n (2 ^ 32) h in
    rw (some, digits, value, small) refl

pub op_again : (n : ℕ) → n < 2 ^ 32 → op_of (op_text n) ≡ Some n
op_again n h = number_again n h

-- ---- parts separated by dots

no_dot : (d : ℕ) → is_ascii_digit d ≡ true → is_dot d ≡ false
no_dot d e = grind (arith, nat_tests)

before_dot : (ds rest : List ℕ) → all_ascii_digits ds ≡ true → before is_dot (ds ++ 46 ∷ rest) ≡ ds
before_dot [] rest e = refl
before_dot (d ∷ ds) rest e =
    let h = and_parts (is_ascii_digit d) (all_ascii_digits ds) e in
    let ih = before_dot ds rest h.1 in
    rw (no_dot d h.0) (ap (λ xs. d ∷ xs) ih)

after_dot : (ds rest : List ℕ) → all_ascii_digits ds ≡ true → after is_dot (ds ++ 46 ∷ rest) ≡ rest
after_dot [] rest e = refl
after_dot (d ∷ ds) rest e =
    let h = and_parts (is_ascii_digit d) (all_ascii_digits ds) e in
    rw (no_dot d h.0) (after_dot ds rest h.1)

before_decimal : (n : ℕ) (rest : List ℕ) → n < 2 ^ 32 → before is_dot (decimal n ++ 46 ∷ rest) ≡ decimal n
before_decimal n rest h = before_dot (decimal n) rest (digits_decimal numerals n (wide n h))

after_decimal : (n : ℕ) (rest : List ℕ) → n < 2 ^ 32 → after is_dot (decimal n ++ 46 ∷ rest) ≡ rest
after_decimal n rest h = after_dot (decimal n) rest (digits_decimal numerals n (wide n h))

pub result_again : (op place : ℕ) → op < 2 ^ 32 → place < 2 ^ 32 → value_of (value_text (Result op place)) ≡ Some (Result op place)
result_again op place h k =
    rw (before_decimal op (decimal place) h, after_decimal op (decimal place) h, number_again op h, number_again place k) refl

pub argument_again : (op region place : ℕ) → op < 2 ^ 32 → region < 2 ^ 32 → place < 2 ^ 32 → value_of (value_text (Arg op region place)) ≡ Some (Arg op region place)
argument_again op region place h k l =
    let rest = decimal region ++ 46 ∷ decimal place in
    rw (before_decimal op rest h, after_decimal op rest h, before_decimal region (decimal place) k, after_decimal region (decimal place) k, number_again op h, number_again region k, number_again place l) refl
