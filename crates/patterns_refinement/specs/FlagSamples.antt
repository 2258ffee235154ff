-- Samples of operands that break each flag, and of operands that don't, at 8 bits.
use Rattle.std.specs.Prelude.{◌≡◌, ℕ, [], ◌∷◌, Bool, true, false, Some}
use Rattle.ir_types.specs.declared.bits.BitsKind.TheVariants as kind
use Rattle.dialects_int.specs.declared.operations.Arithmetic.{Arithmetic}
use Rattle.dialects_int.specs.declared.operations.Arithmetic.TheVariants as operator
use Rattle.patterns_refinement.specs.Meaning.{Flags, breaks_cut, breaks_pair}

abbrev pub nsw : Flags
nsw = record { nsw = true; nuw = false; exact = false }

abbrev pub nuw : Flags
nuw = record { nsw = false; nuw = true; exact = false }

abbrev pub exact : Flags
exact = record { nsw = false; nuw = false; exact = true }

-- two numbers of 8 bits break the flags of an operation; a number of 16 bits breaks those of a truncation to 8
abbrev pub breaks : Flags → Arithmetic → ℕ → ℕ → Bool
breaks flags o a b = breaks_pair flags o 8 (Some (kind.Int 8, a) ∷ Some (kind.Int 8, b) ∷ [])

abbrev pub cut_breaks : Flags → ℕ → Bool
cut_breaks flags a = breaks_cut flags 8 (Some (kind.Int 16, a) ∷ [])

pub record SamplesBreak : Type 0 where
  -- 127 + 1, but neither 126 + 1 nor -1 + -1; 255 + 1, but not 127 + 1
  pub signed_sum : (breaks nsw operator.Add 127 1 ≡ true) × (breaks nsw operator.Add 126 1 ≡ false) × (breaks nsw operator.Add 255 255 ≡ false)
  pub sum : (breaks nuw operator.Add 255 1 ≡ true) × (breaks nuw operator.Add 127 1 ≡ false)
  -- -128 - 1, but not 0 - 1; 0 - 1, but not 1 - 1
  pub signed_difference : (breaks nsw operator.Subtract 128 1 ≡ true) × (breaks nsw operator.Subtract 0 1 ≡ false)
  pub difference : (breaks nuw operator.Subtract 0 1 ≡ true) × (breaks nuw operator.Subtract 1 1 ≡ false)
  -- 64 * 2, but not 64 * -2; 128 * 2, but not 127 * 2
  pub signed_product : (breaks nsw operator.Multiply 64 2 ≡ true) × (breaks nsw operator.Multiply 64 254 ≡ false)
  pub product : (breaks nuw operator.Multiply 128 2 ≡ true) × (breaks nuw operator.Multiply 127 2 ≡ false)
  -- 64 << 1, but not -64 << 1; 128 << 1, but not 64 << 1
  pub signed_shift : (breaks nsw operator.ShiftLeft 64 1 ≡ true) × (breaks nsw operator.ShiftLeft 192 1 ≡ false)
  pub shift : (breaks nuw operator.ShiftLeft 128 1 ≡ true) × (breaks nuw operator.ShiftLeft 64 1 ≡ false)
  -- -3 / 2, but not -4 / 2; 3 / 2, but not 4 / 2
  pub signed_quotient : (breaks exact operator.DivideSigned 253 2 ≡ true) × (breaks exact operator.DivideSigned 252 2 ≡ false)
  pub quotient : (breaks exact operator.DivideUnsigned 3 2 ≡ true) × (breaks exact operator.DivideUnsigned 4 2 ≡ false)
  -- -3 >> 1, but not -4 >> 1; 3 >> 1, but not 2 >> 1
  pub signed_shift_right : (breaks exact operator.ShiftRightSigned 253 1 ≡ true) × (breaks exact operator.ShiftRightSigned 252 1 ≡ false)
  pub shift_right : (breaks exact operator.ShiftRightUnsigned 3 1 ≡ true) × (breaks exact operator.ShiftRightUnsigned 2 1 ≡ false)
  -- 128 as a signed number, but not -128; 256, but not 255
  pub signed_cut : (cut_breaks nsw 128 ≡ true) × (cut_breaks nsw 65408 ≡ false)
  pub cut : (cut_breaks nuw 256 ≡ true) × (cut_breaks nuw 255 ≡ false)
  -- the other flags don't apply to these operations
  pub others : (breaks exact operator.Add 127 1 ≡ false) × (breaks nsw operator.DivideSigned 253 2 ≡ false)
