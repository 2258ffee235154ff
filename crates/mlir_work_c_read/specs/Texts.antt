-- Texts of the interned names, types and attributes of a context.
use Rattle.std.specs.Prelude.{ℕ, ◌^◌, ◌/◌, ◌%◌, List, length, nat_lt, if◌then◌else◌, slice_get, option_and_then, option_map, Option, Some, None}
use Rattle.std.specs.List.{position_from}
use Rattle.std.specs.Str.{bytes_eq}
use Rattle.ir_event.specs.types.declared.node.AttrNode.{AttrNode}
use Rattle.ir_event.specs.types.declared.node.AttrNode.TheVariants as attr
use Rattle.ir_event.specs.types.declared.node.TypeNode.{TypeNode}
use Rattle.ir_event.specs.types.declared.node.TypeNode.TheVariants as type
use Rattle.ir_event.specs.types.Things.{ContextModel}
use Rattle.ir_event.specs.types.Terms.{attr_term, type_term}
use Rattle.mlir_work_c_read.specs.declared.numbers.IntegerNumbers.{IntegerNumbers}
use Rattle.ir_text.specs.AttrText.{attr_text}
use Rattle.ir_text.specs.TypeText.{type_text as text_of_type}

-- the text of name n
abbrev pub name_text : ℕ → ContextModel → Option (List ℕ)
name_text n c = slice_get c.names n

-- the text of type n, as a printed module has it
abbrev pub type_text : ℕ → ContextModel → Option (List ℕ)
type_text n c = if nat_lt n (length c.types) then Some (text_of_type (type_term c n)) else None

-- the text of attribute n, as a printed module has it
abbrev pub attribute_text : ℕ → ContextModel → Option (List ℕ)
attribute_text n c = if nat_lt n (length c.attrs) then Some (attr_text (attr_term c n)) else None

-- the type and the value of an integer attribute's node
abbrev pub integer_in : AttrNode → Option (ℕ × ℕ)
integer_in (attr.Int ty value) = Some (ty, value)
integer_in (attr.Str name) = None
integer_in (attr.Ty ty) = None
integer_in attr.Unit = None
integer_in (attr.Array items) = None
integer_in (attr.Dict entries) = None
integer_in (attr.Sym parts) = None
integer_in (attr.Dense elem values) = None
integer_in (attr.Overflow nsw nuw) = None
integer_in (attr.Opaque text ty) = None

-- the type and the value of attribute n, if it is an integer
abbrev pub integer_of : ℕ → ContextModel → Option (ℕ × ℕ)
integer_of n c = option_and_then integer_in (slice_get c.attrs n)

-- the width of an integer type's node, and 0 for any other type
abbrev pub width_in : Option TypeNode → ℕ
width_in None = 0
width_in (Some (type.Int sign width)) = width
width_in (Some type.Index) = 0
width_in (Some (type.Func inputs outputs)) = 0
width_in (Some (type.Memref dims elem)) = 0
width_in (Some (type.Opaque text)) = 0

-- the width of type n
abbrev pub type_width : ℕ → ContextModel → ℕ
type_width n c = width_in (slice_get c.types n)

-- an integer of a type of a width as a C struct
abbrev pub integer_numbers : ℕ → ℕ × ℕ → IntegerNumbers
integer_numbers width i = record { low = i.1 % 2 ^ 64; high = i.1 / 2 ^ 64; ty = i.0; width = width }

-- attribute n as a C struct, if it is an integer
abbrev pub integer_read : ℕ → ContextModel → Option IntegerNumbers
integer_read n c = option_map (λ i. integer_numbers (type_width i.0 c) i) (integer_of n c)

-- the number of the name with this text
abbrev pub name_number : List ℕ → ContextModel → Option ℕ
name_number text c = position_from (bytes_eq text) 0 c.names
