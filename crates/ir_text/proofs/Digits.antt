-- The decimal texts of numbers of one and two digits.
use Rattle.std.proofs.Common.{◌≡◌, ◌∙◌, ℕ, ◌+◌, ◌/◌, ◌%◌, ◌<◌, ◌≤◌, List, [], ◌∷◌, ◌++◌, ap, append_assoc, arith}
use Rattle.std.specs.Fmt.{decimal}
use Rattle.std.proofs.lemmas.Fmt.{decimal_digit, decimal_step}

pub one_digit : (n : ℕ) → n < 10 → decimal n ≡ (48 + n) ∷ []
one_digit n lt = decimal_digit n lt

pub two_digits : (n : ℕ) → 10 ≤ n → n < 100 → decimal n ≡ (48 + n / 10) ∷ (48 + n % 10) ∷ []
two_digits n ge lt = decimal_step n ge (omega arith) ∙ ap (λ ds. ds ++ (48 + n % 10) ∷ []) (decimal_digit (n / 10) (omega arith))

-- appending both digits of a number
pub put_two : (out mid new : List ℕ) (n : ℕ) → mid ≡ out ++ (48 + n / 10) ∷ [] → new ≡ mid ++ (48 + n % 10) ∷ [] → 10 ≤ n → n < 100 → new ≡ out ++ decimal n
put_two out mid new n e f ge lt = rw (f, e, two_digits n ge lt) (append_assoc out _ _)

-- appending the last digit after the other digits
pub put_last : (out mid new : List ℕ) (n : ℕ) → mid ≡ out ++ decimal (n / 10) → new ≡ mid ++ (48 + n % 10) ∷ [] → 10 ≤ n → n < 10000 → new ≡ out ++ decimal n
put_last out mid new n e f ge lt = rw (f, e, decimal_step n ge (omega arith)) (append_assoc out _ _)

-- the usual widths
pub digits_1 : decimal 1 ≡ 49 ∷ []
digits_1 = one_digit 1 (omega arith)

pub digits_8 : decimal 8 ≡ 56 ∷ []
digits_8 = one_digit 8 (omega arith)

pub digits_16 : decimal 16 ≡ 49 ∷ 54 ∷ []
digits_16 = two_digits 16 (omega arith) (omega arith)

pub digits_32 : decimal 32 ≡ 51 ∷ 50 ∷ []
digits_32 = two_digits 32 (omega arith) (omega arith)

pub digits_64 : decimal 64 ≡ 54 ∷ 52 ∷ []
digits_64 = two_digits 64 (omega arith) (omega arith)
