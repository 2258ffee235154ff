-- Interning as total functions: the id of an item, and the context with it.
use Rattle.std.specs.Prelude.{ℕ, Bool, List}
use Rattle.std.specs.List.{position_or_len, list_any}
use Rattle.std.specs.Str.{bytes_eq}
use Rattle.ir_types_interner.specs.Interned.{with_last}
use Rattle.ir_types.specs.declared.node.TypeNode.{TypeNode}
use Rattle.ir_types.specs.declared.node.AttrNode.{AttrNode}
use Rattle.ir_types.specs.Things.{ContextModel}
use Rattle.ir_types.specs.Same.{same_type, same_attr}
use Rattle.ir_types.specs.Dictionaries.{kept}

-- the id of a name is its index, or the next index
unfoldable pub with_name : List ℕ → ContextModel → ℕ × ContextModel
with_name bytes c = (position_or_len (bytes_eq bytes) c.names, record c { names = with_last (bytes_eq bytes) bytes c.names })

-- the same for a type
unfoldable pub with_type : TypeNode → ContextModel → ℕ × ContextModel
with_type node c = (position_or_len (same_type node) c.types, record c { types = with_last (same_type node) node c.types })

-- the same for an attribute, whose entries are sorted first
unfoldable pub with_attr : AttrNode → ContextModel → ℕ × ContextModel
with_attr node c =
    let sorted_node = kept c.names node in
    (position_or_len (same_attr sorted_node) c.attrs, record c { attrs = with_last (same_attr sorted_node) sorted_node c.attrs })

-- whether an item is known
abbrev pub knows_name : List ℕ → ContextModel → Bool
knows_name bytes c = list_any (bytes_eq bytes) c.names

abbrev pub knows_type : TypeNode → ContextModel → Bool
knows_type node c = list_any (same_type node) c.types

abbrev pub knows_attr : AttrNode → ContextModel → Bool
knows_attr node c = list_any (same_attr (kept c.names node)) c.attrs
