-- The results of operations on integers (`arith` Dialect). A value of w bits is a number below 2^w; its signed value is
-- by two's complement. A result is taken modulo 2^w.
use Rattle.std.specs.Prelude.{ℕ, ◌+◌, ◌-◌, ◌*◌, ◌/◌, ◌%◌, ◌^◌, Bool, true, false, ◌&&◌, ◌==◌, not, nat_lt, nat_le, pos, ◌-ℤ◌, int_lt, int_le, int_div, int_rem, bit_and, bit_or, bit_xor, if◌then◌else◌, Option, Some, None}
use Rattle.std.specs.Int.{int_shr}
use Rattle.ir_types.specs.Readings.{signed_of, wrapped}
use Rattle.dialects_int.specs.declared.operations.Arithmetic.{Arithmetic}
use Rattle.dialects_int.specs.declared.operations.Arithmetic.TheVariants as op
use Rattle.dialects_int.specs.declared.operations.Predicate.{Predicate}
use Rattle.dialects_int.specs.declared.operations.Predicate.TheVariants as asks
use Rattle.dialects_int.specs.declared.operations.Cast.{Cast}
use Rattle.dialects_int.specs.declared.operations.Cast.TheVariants as cast

-- sums, differences and products
unfoldable pub sum_of : ℕ → ℕ → ℕ → ℕ
sum_of w a b = (a + b) % 2 ^ w

unfoldable pub difference_of : ℕ → ℕ → ℕ → ℕ
difference_of w a b = wrapped w (pos a -ℤ pos b)

unfoldable pub product_of : ℕ → ℕ → ℕ → ℕ
product_of w a b = (a * b) % 2 ^ w

-- the least signed value and -1, by their bits
abbrev pub least : ℕ → ℕ
least w = 2 ^ (w - 1)

abbrev pub all_ones : ℕ → ℕ
all_ones w = 2 ^ w - 1

-- the quotient is rounded towards zero, and the remainder has the dividend's sign; no result for the divisor 0, and for
-- the least value by -1
abbrev pub divides_signed : ℕ → ℕ → ℕ → Bool
divides_signed w a b = not (b == 0) && not ((a == least w) && (b == all_ones w))

unfoldable pub signed_quotient_of : ℕ → ℕ → ℕ → Option ℕ
signed_quotient_of w a b = if divides_signed w a b then Some (wrapped w (int_div (signed_of w a) (signed_of w b))) else None

unfoldable pub signed_remainder_of : ℕ → ℕ → ℕ → Option ℕ
signed_remainder_of w a b = if divides_signed w a b then Some (wrapped w (int_rem (signed_of w a) (signed_of w b))) else None

-- unsigned division; no result for the divisor 0
unfoldable pub quotient_of : ℕ → ℕ → Option ℕ
quotient_of a b = if b == 0 then None else Some (a / b)

unfoldable pub remainder_of : ℕ → ℕ → Option ℕ
remainder_of a b = if b == 0 then None else Some (a % b)

-- shifts; no result for an amount of w or more
unfoldable pub left_shift_of : ℕ → ℕ → ℕ → Option ℕ
left_shift_of w a n = if nat_lt n w then Some ((a * 2 ^ n) % 2 ^ w) else None

unfoldable pub right_shift_of : ℕ → ℕ → ℕ → Option ℕ
right_shift_of w a n = if nat_lt n w then Some (a / 2 ^ n) else None

-- of the signed value, rounded down
unfoldable pub signed_right_shift_of : ℕ → ℕ → ℕ → Option ℕ
signed_right_shift_of w a n = if nat_lt n w then Some (wrapped w (int_shr (signed_of w a) n)) else None

-- whether two values satisfy a predicate
unfoldable pub comparison_of : ℕ → Predicate → ℕ → ℕ → Bool
comparison_of w asks.Equal a b = a == b
comparison_of w asks.NotEqual a b = not (a == b)
comparison_of w asks.SignedLess a b = int_lt (signed_of w a) (signed_of w b)
comparison_of w asks.SignedLessOrEqual a b = int_le (signed_of w a) (signed_of w b)
comparison_of w asks.SignedGreater a b = int_lt (signed_of w b) (signed_of w a)
comparison_of w asks.SignedGreaterOrEqual a b = int_le (signed_of w b) (signed_of w a)
comparison_of w asks.UnsignedLess a b = nat_lt a b
comparison_of w asks.UnsignedLessOrEqual a b = nat_le a b
comparison_of w asks.UnsignedGreater a b = nat_lt b a
comparison_of w asks.UnsignedGreaterOrEqual a b = nat_le b a

-- maxima and minima
unfoldable pub signed_maximum_of : ℕ → ℕ → ℕ → ℕ
signed_maximum_of w a b = if int_lt (signed_of w a) (signed_of w b) then b else a

unfoldable pub maximum_of : ℕ → ℕ → ℕ
maximum_of a b = if nat_lt a b then b else a

unfoldable pub signed_minimum_of : ℕ → ℕ → ℕ → ℕ
signed_minimum_of w a b = if int_lt (signed_of w b) (signed_of w a) then b else a

unfoldable pub minimum_of : ℕ → ℕ → ℕ
minimum_of a b = if nat_lt b a then b else a

-- the result of an operation on two values of w bits
abbrev pub value_of : Arithmetic → ℕ → ℕ → ℕ → Option ℕ
value_of op.Add w a b = Some (sum_of w a b)
value_of op.Subtract w a b = Some (difference_of w a b)
value_of op.Multiply w a b = Some (product_of w a b)
value_of op.ShiftLeft w a b = left_shift_of w a b
value_of op.DivideSigned w a b = signed_quotient_of w a b
value_of op.DivideUnsigned w a b = quotient_of a b
value_of op.RemainderSigned w a b = signed_remainder_of w a b
value_of op.RemainderUnsigned w a b = remainder_of a b
value_of op.And w a b = Some (bit_and a b)
value_of op.Or w a b = Some (bit_or a b)
value_of op.ExclusiveOr w a b = Some (bit_xor a b)
value_of op.ShiftRightSigned w a b = signed_right_shift_of w a b
value_of op.ShiftRightUnsigned w a b = right_shift_of w a b
value_of op.MaximumSigned w a b = Some (signed_maximum_of w a b)
value_of op.MaximumUnsigned w a b = Some (maximum_of a b)
value_of op.MinimumSigned w a b = Some (signed_minimum_of w a b)
value_of op.MinimumUnsigned w a b = Some (minimum_of a b)

-- a value of v bits converted to w bits: sign extended, zero extended, or truncated; no result for a truncation to a
-- width that isn't smaller
unfoldable pub sign_extended : ℕ → ℕ → ℕ → ℕ
sign_extended v w a = wrapped w (signed_of v a)

unfoldable pub zero_extended : ℕ → ℕ → ℕ
zero_extended w a = a % 2 ^ w

unfoldable pub truncated : ℕ → ℕ → ℕ → Option ℕ
truncated v w a = if nat_lt w v then Some (a % 2 ^ w) else None

abbrev pub cast_of : Cast → ℕ → ℕ → ℕ → Option ℕ
cast_of cast.ExtendSigned v w a = Some (sign_extended v w a)
cast_of cast.ExtendUnsigned v w a = Some (zero_extended w a)
cast_of cast.Truncate v w a = truncated v w a

-- whether an operand of w bits is absorbing, so that it is the result: 0 for a product and a conjunction, all ones for
-- a disjunction
unfoldable pub absorbs : Arithmetic → ℕ → ℕ → Bool
absorbs op.Multiply w a = a == 0
absorbs op.And w a = a == 0
absorbs op.Or w a = a == all_ones w
absorbs _ w a = false

-- the bits of a comparison's result, and the operand that they select
abbrev pub truth : Bool → ℕ
truth true = 1
truth false = 0

abbrev pub choice_of : {A : Type 0} → ℕ → A → A → A
choice_of condition a b = if condition == 0 then b else a
