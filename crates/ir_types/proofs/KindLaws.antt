-- The numbers that constants represent.
use Rattle.std.proofs.Common.{◌≡◌, ℕ, ◌^◌, ◌<◌, ◌≤◌, ℤ, true}
use Rattle.ir_types.specs.declared.bits.BitsKind.{BitsKind}
use Rattle.ir_types.specs.declared.bits.BitsKind.TheVariants as kind
use Rattle.ir_types.specs.Limits.{index_width}
use Rattle.ir_types.specs.Ranges.{is_value_number}
use Rattle.ir_types.specs.Readings.{signed_of, wrapped}
use Rattle.ir_types.specs.Bits.{width_of, type_of}
use Rattle.ir_types.proofs.ReadingLaws.{signed_fits, signed_back}

pub number_is_value : (kind : BitsKind) (v : ℕ) → 1 ≤ width_of kind → v < 2 ^ width_of kind → is_value_number (type_of kind) (signed_of (width_of kind) v) ≡ true
number_is_value (kind.Int w) v some h = signed_fits w v some h
number_is_value kind.Index v some h = signed_fits index_width v some h

pub value_is_number : (kind : BitsKind) (number : ℤ) → 1 ≤ width_of kind → is_value_number (type_of kind) number ≡ true → signed_of (width_of kind) (wrapped (width_of kind) number) ≡ number
value_is_number (kind.Int w) number some h = signed_back w number some h
value_is_number kind.Index number some h = signed_back index_width number some h
