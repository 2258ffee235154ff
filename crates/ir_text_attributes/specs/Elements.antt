-- The element types of dense arrays. Builtin Dialect, "DenseArrayAttr".
use Rattle.std.specs.Prelude.{ℕ, Bool, false, if◌then◌else◌, ◌==◌, List, codes, Option, Some, None, option_map, option_and_then, ℤ}
use Rattle.std.specs.Str.{bytes_eq}
use Rattle.ir_text_tokens.specs.Numbers.{integer_of, below_limit}
use Rattle.ir_types.specs.declared.node.Sign.TheVariants.{Signless}
use Rattle.ir_types.specs.Terms.{TypeTerm, Integer}
use Rattle.ir_types.specs.Readings.{literal_bits, reading_of}
use Rattle.ir_text_attributes.specs.declared.element.Element.{Element}
use Rattle.ir_text_attributes.specs.declared.element.Element.TheVariants.{I1, I8, I16, I32, I64}

-- the number of bits of an element
abbrev pub bits_of : Element → ℕ
bits_of I1 = 1
bits_of I8 = 8
bits_of I16 = 16
bits_of I32 = 32
bits_of I64 = 64

-- the type of an element
abbrev pub type_of : Element → TypeTerm
type_of e = Integer Signless (bits_of e)

-- the element type that a word names
abbrev pub element_named : List ℕ → Option Element
element_named w =
    if bytes_eq w (codes "i1") then Some I1
    else if bytes_eq w (codes "i8") then Some I8
    else if bytes_eq w (codes "i16") then Some I16
    else if bytes_eq w (codes "i32") then Some I32
    else if bytes_eq w (codes "i64") then Some I64
    else None

abbrev pub element_of : List ℕ → Option TypeTerm
element_of w = option_map type_of (element_named w)

-- whether the items of a type have one bit, so that truth values are allowed
abbrev pub is_bit : TypeTerm → Bool
is_bit (Integer Signless w) = w == 1
is_bit _ = false

-- the bits of a type that the digits denote, with an optional minus sign
abbrev pub item_bits : TypeTerm → Bool → List ℕ → Option ℕ
item_bits elem negative digits = option_and_then (literal_bits elem negative) (below_limit (integer_of digits))

-- the number that these bits denote
abbrev pub item_value : TypeTerm → Bool → List ℕ → Option ℤ
item_value elem negative digits = option_map (reading_of elem) (item_bits elem negative digits)
