-- The invariants of every context.
use Rattle.std.specs.Prelude.{◌≡◌, ℕ, ◌<◌, ◌≤◌, true, List, length, take, slice_get, Some, None}
use Rattle.std.specs.List.{AllPairs}
use Rattle.ir_types_interner.specs.Interned.{AreApart}
use Rattle.ir_types.specs.declared.node.TypeNode.{TypeNode}
use Rattle.ir_types.specs.declared.node.AttrNode.{AttrNode}
use Rattle.ir_types.specs.declared.node.AttrNode.TheVariants.{Dict}
use Rattle.ir_types.specs.Things.{ContextModel, TypesBelow, PartsBelow}
use Rattle.ir_types.specs.Terms.{type_term, attr_term}
use Rattle.ir_types.specs.Reasons.{type_fault, attr_fault}
use Rattle.ir_types.specs.Dictionaries.{comes_before}
use Rattle.ir_types.specs.Words.{words}
use Rattle.ir_types.specs.Limits.{most_things, most_entries}

-- the bytes of the keys are strictly increasing, so each key occurs once
abbrev pub IsRising : List (List ℕ) → List (ℕ × ℕ) → Type 0
IsRising names entries = AllPairs (λ a b. comes_before names a b ≡ true) entries

-- a dictionary has a limited number of entries, sorted by their keys' bytes
abbrev pub IsKept : List (List ℕ) → AttrNode → Type 0
IsKept names (Dict entries) = (length entries ≤ most_entries) × IsRising names entries
IsKept names _ = Unit {0}

-- the words come first; a node refers only to earlier ones; no item has a fault
pub record Holds (c : ContextModel) : Type 0 where
  pub few_names : length c.names ≤ most_things
  pub few_types : length c.types ≤ most_things
  pub few_attrs : length c.attrs ≤ most_things
  pub words_first : take 54 c.names ≡ words
  pub types_refer : (i : ℕ) (node : TypeNode) → slice_get c.types i ≡ Some node → TypesBelow i node
  pub attrs_refer : (i : ℕ) (node : AttrNode) → slice_get c.attrs i ≡ Some node → PartsBelow (length c.names) (length c.types) i node
  pub types_fine : (i : ℕ) → i < length c.types → type_fault (type_term c i) ≡ None
  pub attrs_fine : (i : ℕ) → i < length c.attrs → attr_fault (attr_term c i) ≡ None
  pub attrs_kept : (i : ℕ) (node : AttrNode) → slice_get c.attrs i ≡ Some node → IsKept c.names node

-- the same, and all items are distinct
pub record IsSound (c : ContextModel) : Type 0 where
  pub holds : Holds c
  pub names_apart : AreApart c.names
  pub types_apart : AreApart c.types
  pub attrs_apart : AreApart c.attrs
