-- Widths, and constants of signless integer types and of index.
use Rattle.std.specs.Prelude.{ℕ, ◌^◌, Bool, nat_lt, ◌&&◌, IsTrue, if◌then◌else◌, Option, Some, None}
use Rattle.ir_types.specs.declared.node.TypeNode.{TypeNode}
use Rattle.ir_types.specs.declared.node.TypeNode.TheVariants as type
use Rattle.ir_types.specs.declared.bits.BitsKind.{BitsKind}
use Rattle.ir_types.specs.declared.bits.BitsKind.TheVariants as kind
use Rattle.ir_types.specs.declared.node.Sign.TheVariants.{Signless}
use Rattle.ir_types.specs.Terms.{TypeTerm}
use Rattle.ir_types.specs.Terms as term
use Rattle.ir_types.specs.Limits.{index_width}
use Rattle.ir_types.specs.Reasons.{is_width}

-- the width of an integer type is within its limits
abbrev pub HasWidth : TypeNode → Type 0
HasWidth (type.Int sign width) = IsTrue (is_width width)
HasWidth _ = Unit {0}

-- the width of a kind
abbrev pub width_of : BitsKind → ℕ
width_of (kind.Int width) = width
width_of kind.Index = index_width

-- the type of a kind
abbrev pub type_of : BitsKind → TypeTerm
type_of (kind.Int width) = term.Integer Signless width
type_of kind.Index = term.Index

-- whether a number is the bits of a constant of a kind
abbrev pub is_bits : BitsKind → ℕ → Bool
is_bits kind value = is_width (width_of kind) && nat_lt value (2 ^ width_of kind)

-- the kind and the bits, if they are in range
abbrev pub bits_of : BitsKind → ℕ → Option (BitsKind × ℕ)
bits_of kind value = if is_bits kind value then Some (kind, value) else None
