-- The bits of integers, and the numbers that they represent.
use Rattle.std.specs.Prelude.{◌≡◌, ℕ, ◌-◌, ◌^◌, Bool, false, nat_lt, if◌then◌else◌, Option, Some, None, ℤ, pos, ◌+ℤ◌, ◌-ℤ◌, ◌*ℤ◌, unsigned_abs}
use Rattle.std.specs.Int.{int_rem_euclid}
use Rattle.ir_types.specs.declared.node.Sign.TheVariants.{Unsigned}
use Rattle.ir_types.specs.Terms.{TypeTerm, Integer, Index}
use Rattle.ir_types.specs.Limits.{index_width}
use Rattle.ir_types.specs.Ranges.{is_literal}

-- two's complement: from 2^(w-1) on, 2^w is subtracted
unfoldable pub signed_of : ℕ → ℕ → ℤ
signed_of w bits = if nat_lt bits (2 ^ (w - 1)) then pos bits else (pos bits -ℤ pos (2 ^ w))

-- the bits of an integer: the number modulo 2^w
unfoldable pub wrapped : ℕ → ℤ → ℕ
wrapped w number = unsigned_abs (int_rem_euclid number (pos (2 ^ w)))

-- two numbers differ by a multiple of a third
abbrev pub IsSameModulo : ℕ → ℤ → ℤ → Type 0
IsSameModulo n a b = (k : ℤ) × (a ≡ b +ℤ k *ℤ pos n)

-- the width of an integer of a type, or 0 if the type has no integers
abbrev pub type_width : TypeTerm → ℕ
type_width (Integer sign w) = w
type_width Index = index_width
type_width _ = 0

-- whether a number is the bits of an integer of a type
abbrev pub is_bits_of : TypeTerm → ℕ → Bool
is_bits_of (Integer sign w) bits = nat_lt bits (2 ^ w)
is_bits_of Index bits = nat_lt bits (2 ^ index_width)
is_bits_of _ bits = false

-- the number that bits represent: unsigned for an unsigned type, two's complement for any other
abbrev pub reading_of : TypeTerm → ℕ → ℤ
reading_of (Integer Unsigned w) bits = pos bits
reading_of (Integer _ w) bits = signed_of w bits
reading_of Index bits = signed_of index_width bits
reading_of _ bits = pos bits

-- the number of a literal, with a minus or without
abbrev pub literal_number : Bool → ℕ → ℤ
literal_number negative magnitude = if negative then (pos 0 -ℤ pos magnitude) else pos magnitude

-- the bits of a literal, if it is in the range of the type
abbrev pub literal_bits : TypeTerm → Bool → ℕ → Option ℕ
literal_bits ty negative magnitude = if is_literal ty negative magnitude then Some (wrapped (type_width ty) (literal_number negative magnitude)) else None
