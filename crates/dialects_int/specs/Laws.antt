-- Definitions for the theorems of arithmetic.
use Rattle.std.specs.Prelude.{ℕ, ◌^◌, ◌<◌, Bool, true, false}
use Rattle.dialects_int.specs.declared.operations.Arithmetic.{Arithmetic}
use Rattle.dialects_int.specs.declared.operations.Arithmetic.TheVariants as op
use Rattle.dialects_int.specs.declared.operations.Predicate.{Predicate}
use Rattle.dialects_int.specs.declared.operations.Predicate.TheVariants as asks

-- a value of w bits
abbrev pub IsValue : ℕ → ℕ → Type 0
IsValue w a = a < 2 ^ w

-- commutative operations
abbrev pub commutes : Arithmetic → Bool
commutes op.Add = true
commutes op.Multiply = true
commutes op.And = true
commutes op.Or = true
commutes op.ExclusiveOr = true
commutes op.MaximumSigned = true
commutes op.MaximumUnsigned = true
commutes op.MinimumSigned = true
commutes op.MinimumUnsigned = true
commutes _ = false

-- associative operations
abbrev pub associates : Arithmetic → Bool
associates op.Add = true
associates op.Multiply = true
associates op.And = true
associates op.Or = true
associates op.ExclusiveOr = true
associates _ = false

-- operations with 0 as a neutral second operand
abbrev pub ignores_zero : Arithmetic → Bool
ignores_zero op.Add = true
ignores_zero op.Subtract = true
ignores_zero op.Or = true
ignores_zero op.ExclusiveOr = true
ignores_zero op.ShiftLeft = true
ignores_zero op.ShiftRightSigned = true
ignores_zero op.ShiftRightUnsigned = true
ignores_zero _ = false

-- operations with 1 as a neutral second operand
abbrev pub ignores_one : Arithmetic → Bool
ignores_one op.Multiply = true
ignores_one op.DivideSigned = true
ignores_one op.DivideUnsigned = true
ignores_one _ = false

-- idempotent operations
abbrev pub keeps_itself : Arithmetic → Bool
keeps_itself op.And = true
keeps_itself op.Or = true
keeps_itself op.MaximumSigned = true
keeps_itself op.MaximumUnsigned = true
keeps_itself op.MinimumSigned = true
keeps_itself op.MinimumUnsigned = true
keeps_itself _ = false

-- the predicate with the same result for swapped operands
abbrev pub mirrored : Predicate → Predicate
mirrored asks.Equal = asks.Equal
mirrored asks.NotEqual = asks.NotEqual
mirrored asks.SignedLess = asks.SignedGreater
mirrored asks.SignedLessOrEqual = asks.SignedGreaterOrEqual
mirrored asks.SignedGreater = asks.SignedLess
mirrored asks.SignedGreaterOrEqual = asks.SignedLessOrEqual
mirrored asks.UnsignedLess = asks.UnsignedGreater
mirrored asks.UnsignedLessOrEqual = asks.UnsignedGreaterOrEqual
mirrored asks.UnsignedGreater = asks.UnsignedLess
mirrored asks.UnsignedGreaterOrEqual = asks.UnsignedLessOrEqual

-- reflexive predicates
abbrev pub holds_of_itself : Predicate → Bool
holds_of_itself asks.Equal = true
holds_of_itself asks.SignedLessOrEqual = true
holds_of_itself asks.SignedGreaterOrEqual = true
holds_of_itself asks.UnsignedLessOrEqual = true
holds_of_itself asks.UnsignedGreaterOrEqual = true
holds_of_itself _ = false
