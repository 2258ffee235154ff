-- The printed number of an integer is a literal of its type with the same bits.
use Rattle.std.proofs.Common.{◌≡◌, ℕ, ◌^◌, ◌≤◌, ◌<◌, ℤ, pos, Bool, true, false, Some, None, refl, ap, arith}
use Rattle.std.specs.Prelude.{nat_le, nat_lt, int_lt, unsigned_abs}
use Rattle.std.proofs.lemmas.Bool.Decides.{nat_tests}
use Rattle.std.proofs.Math.Nat.{pow-le-pow_right}
use Rattle.ir_types.specs.Limits.{index_width}
use Rattle.ir_types.specs.Terms.{TypeTerm, Integer, Index, Function, Memref, OpaqueType, IntegerOf}
use Rattle.ir_types.specs.Ranges.{is_literal, is_signed, is_value_number}
use Rattle.ir_types.specs.Readings.{is_bits_of, literal_bits, reading_of, type_width, wrapped}
use Rattle.ir_types.specs.Reasons.{is_width, attr_fault}
use Rattle.ir_types.proofs.ReadingLaws.{literal_small, number_is, type_number_back, type_number_fits, printed_is_literal, value_is_literal}
use Rattle.ir_text_tokens.specs.Numbers.{below_limit}
use Rattle.ir_text_modules.specs.Written.{is_written_type}
use Rattle.ir_text_tokens.proofs.Places.{is_below}
use Rattle.std.proofs.lemmas.Bool.{lt-ltb, leb-true, ltb-true}
use Rattle.ir_tree.proofs.Counts.{below_none}

width_bounds : (w : ℕ) → is_width w ≡ true → (1 ≤ w) × (w ≤ 128)
width_bounds w e = (grind (arith, nat_tests), grind (arith, nat_tests))

-- an integer type has at least one bit
some_width : (o : Bool) (ty : TypeTerm) (z : ℤ) → is_written_type o ty ≡ true → is_value_number ty z ≡ true → 1 ≤ type_width ty
some_width o (Integer sign w) z t v = (width_bounds w t).0
some_width o Index z t v = omega arith
some_width o (Function ins outs) z t v = absurd cc
some_width o (Memref dims elem) z t v = absurd cc
some_width o (OpaqueType text) z t v = absurd cc

index_small : (negative : Bool) (m : ℕ) → is_signed index_width negative m ≡ true → m < 2 ^ 128
index_small true m h = omega (arith, leb-true m (2 ^ 63) h)
index_small false m h = omega (arith, ltb-true m (2 ^ 63) h)

-- no literal is over the limit of numbers
small : (o : Bool) (ty : TypeTerm) (negative : Bool) (m : ℕ) → is_written_type o ty ≡ true → is_literal ty negative m ≡ true → m < 2 ^ 128
small o (Integer sign w) negative m t h =
    let b = width_bounds w t in
    let whole : 2 ^ w ≤ 2 ^ 128 = pow-le-pow_right {n = 2} (omega arith) {i = w} {j = 128} b.1 in
    omega (arith, whole, literal_small sign w negative m b.0 h)
small o Index negative m t h = index_small negative m h
small o (Function ins outs) negative m t h = absurd cc
small o (Memref dims elem) negative m t h = absurd cc
small o (OpaqueType text) negative m t h = absurd cc

-- a number as a literal of a type: its bits, which denote the number
pub record IsPlain (ty : TypeTerm) (z : ℤ) : Type 0 where
  pub bits : ℕ
  pub literal : literal_bits ty (int_lt z (pos 0)) (unsigned_abs z) ≡ Some bits
  pub reading : reading_of ty bits ≡ z
  pub small : unsigned_abs z < 2 ^ 128

-- a number of a type that is printed
pub simple : (o : Bool) (ty : TypeTerm) (z : ℤ) → is_written_type o ty ≡ true → is_value_number ty z ≡ true → IsPlain ty z
simple o ty z t v =
    let some = some_width o ty z t v in
    let fits = value_is_literal ty (int_lt z (pos 0)) (unsigned_abs z) some v in
    record {
      bits = wrapped (type_width ty) z;
      literal = rw fits (ap Some (ap (wrapped (type_width ty)) (number_is z)));
      reading = type_number_back ty z some v;
      small = small o ty (int_lt z (pos 0)) (unsigned_abs z) t fits;
    }

bits_width : (o : Bool) (ty : TypeTerm) (bits : ℕ) → is_written_type o ty ≡ true → is_bits_of ty bits ≡ true → 1 ≤ type_width ty
bits_width o (Integer sign w) bits t v = (width_bounds w t).0
bits_width o Index bits t v = omega arith
bits_width o (Function ins outs) bits t v = absurd cc
bits_width o (Memref dims elem) bits t v = absurd cc
bits_width o (OpaqueType text) bits t v = absurd cc

-- the number that the bits denote, as a magnitude with an optional minus sign
pub record IsRead (ty : TypeTerm) (bits : ℕ) (z : ℤ) : Type 0 where
  pub literal : literal_bits ty (int_lt z (pos 0)) (unsigned_abs z) ≡ Some bits
  pub small : unsigned_abs z < 2 ^ 128

pub read_again : (o : Bool) (ty : TypeTerm) (bits : ℕ) → is_written_type o ty ≡ true → is_bits_of ty bits ≡ true → IsRead ty bits (reading_of ty bits)
read_again o ty bits t v =
    let some = bits_width o ty bits t v in
    let z = reading_of ty bits in
    let fits = value_is_literal ty (int_lt z (pos 0)) (unsigned_abs z) some (type_number_fits ty bits some v) in
    record { literal = printed_is_literal ty bits some v; small = small o ty (int_lt z (pos 0)) (unsigned_abs z) t fits }

pub fine : (ty : TypeTerm) (bits : ℕ) → is_bits_of ty bits ≡ true → attr_fault (IntegerOf ty bits) ≡ None
fine ty bits e = rw e refl
