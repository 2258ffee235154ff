-- The data of an operation in a slot, apart from its name and its nodes. The head of a block has none of it.
use Rattle.std.specs.Prelude.{◌≡◌, ℕ, List, [], map, slice_set}
use Rattle.ir_tree_laws.specs.trees.declared.place.Part.{Part}
use Rattle.ir_tree_laws.specs.trees.declared.place.Part.TheVariants.{Props, Attrs}
use Rattle.ir_tree_laws.specs.trees.declared.value.Value.{Value}
use Rattle.ir_tree_laws.specs.trees.Tree.{Head}
use Rattle.ir_store_arena.specs.Slots.{Slots}
use Rattle.ir_store_arena.specs.declared.op_data.Entries.{Entries}
use Rattle.ir_store_arena.specs.Shapes.{RegionShape}

-- a dictionary includes the slots of its removed keys
pub record Contents : Type 0 where
  pub operands : List Value
  pub results : List ℕ
  pub properties : Slots
  pub attributes : Slots
  pub shapes : List RegionShape
  -- for the head of a block: the slot of the parent operation, and the index of the region
  pub owner : ℕ
  pub region : ℕ

abbrev pub no_slots : Slots
no_slots = record { present = []; gone = [] }

abbrev pub no_contents : Contents
no_contents = record { operands = []; results = []; properties = no_slots; attributes = no_slots; shapes = []; owner = 0; region = 0 }

-- the contents of the head of a block
abbrev pub head_contents : ℕ → ℕ → Contents
head_contents owner number = record no_contents { owner = owner; region = number }

-- the contents of an operation with these regions
abbrev pub contents_with : Head → List RegionShape → Contents
contents_with h shapes = record no_contents {
  operands = h.operands;
  results = h.results;
  properties = record { present = h.properties; gone = [] };
  attributes = record { present = h.attributes; gone = [] };
  shapes = shapes;
}

-- the contents with v as operand j
abbrev pub with_operand : ℕ → Value → Contents → Contents
with_operand j v c = record c { operands = slice_set c.operands j v }

-- one dictionary
abbrev pub dictionary_in : Part → Contents → Slots
dictionary_in Props c = c.properties
dictionary_in Attrs c = c.attributes

-- the contents with one dictionary replaced
abbrev pub with_dictionary : Part → Slots → Contents → Contents
with_dictionary Props s c = record c { properties = s }
with_dictionary Attrs s c = record c { attributes = s }

-- the contents without the slots of removed keys
abbrev pub without_gone : Contents → Contents
without_gone c = record c {
  properties = record { present = c.properties.present; gone = [] };
  attributes = record { present = c.attributes.present; gone = [] };
}

-- the dictionaries of an operation that has none
abbrev pub no_entries : Entries
no_entries = record { props = no_slots; attrs = no_slots }

-- the dictionaries of a header
abbrev pub entries_with : Head → Entries
entries_with h = record { props = record { present = h.properties; gone = [] }; attrs = record { present = h.attributes; gone = [] } }

-- one of the dictionaries
abbrev pub entries_at : Part → Entries → Slots
entries_at Props e = e.props
entries_at Attrs e = e.attrs

-- the dictionaries with one of them replaced
abbrev pub with_part : Part → Slots → Entries → Entries
with_part Props s e = record e { props = s }
with_part Attrs s e = record e { attrs = s }

-- the dictionaries without the slots of removed keys
abbrev pub entries_kept : Entries → Entries
entries_kept e = record {
  props = record { present = e.props.present; gone = [] };
  attrs = record { present = e.attrs.present; gone = [] };
}

-- no entries, and no slots of removed keys
abbrev pub HasNoEntries : Contents → Type 0
HasNoEntries c = (c.properties ≡ no_slots) × (c.attributes ≡ no_slots)
