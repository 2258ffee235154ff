-- The row of an operation, by the bytes of its name.
use Rattle.std.specs.Prelude.{ℕ, List, [], ◌∷◌, map, Bool, false, Option, Some, None, if◌then◌else◌}
use Rattle.std.specs.Str.{bytes_eq}
use Rattle.ir_types.specs.WordNames.{word_bytes}
use Rattle.op_registry.specs.declared.definition.OpDef.{OpDef}
use Rattle.op_registry.specs.declared.definition.Types.{Types}
use Rattle.op_registry.specs.declared.definition.RegionRule.{RegionRule}
use Rattle.op_registry.specs.declared.definition.Property.{Property}
use Rattle.op_registry.specs.declared.definition.Traits.{Traits}
use Rattle.op_registry.specs.declared.definition.Trait.{Trait}
use Rattle.op_registry.specs.declared.definition.Trait.TheVariants.{Terminator, Isolated, SymbolTable, Symbol, Recursive}
use Rattle.op_registry.specs.declared.own.Own.{Own}
use Rattle.op_registry.specs.declared.own.Own.TheVariants.{Unknown}
use Rattle.op_registry.specs.Rows.{TypesRow, RegionRow, PropertyRow, Row, rows}

-- the item with this name in a list of names and items
abbrev pub next_to : {A : Type 0} → List ℕ → List (List ℕ × A) → Option A
next_to op [] = None
next_to op (row ∷ more) = if bytes_eq op row.0 then Some row.1 else next_to op more

-- the row of an operation, if it is registered
unfoldable pub row_of : List ℕ → Option Row
row_of op = next_to op rows

-- the keys of its properties
abbrev pub keys_of : Row → List (List ℕ)
keys_of row = map (λ (property : PropertyRow). property.key) row.properties

-- whether a trait is among some
abbrev pub is_among : Trait → Traits → Bool
is_among Terminator traits = traits.terminator
is_among Isolated traits = traits.isolated
is_among SymbolTable traits = traits.symbol_table
is_among Symbol traits = traits.symbol
is_among Recursive traits = traits.recursive

-- whether an operation has a trait; one that isn't registered has none
abbrev pub trait_in : Trait → Option Row → Bool
trait_in wanted None = false
trait_in wanted (Some row) = is_among wanted row.traits

abbrev pub has_trait : Trait → List ℕ → Bool
has_trait wanted op = trait_in wanted (row_of op)

-- the effects of an operation itself; unknown for one that isn't registered
abbrev pub own_in : Option Row → Own
own_in None = Unknown
own_in (Some row) = row.effects

abbrev pub own_of : List ℕ → Own
own_of op = own_in (row_of op)

-- an `OpDef` as a row

abbrev pub types_row : Types → TypesRow
types_row types = record { first = types.first.now; more = types.more }

abbrev pub region_row : RegionRule → RegionRow
region_row region = record { arguments = types_row region.arguments; may_be_empty = region.may_be_empty }

abbrev pub property_row : Property → PropertyRow
property_row property = record { key = word_bytes property.key; required = property.required }

unfoldable pub row_from : OpDef → Row
row_from def = record {
  operands = types_row def.operands;
  results = types_row def.results;
  regions = map region_row def.regions.now;
  properties = map property_row def.properties.now;
  effects = def.effects;
  traits = def.traits;
  parents = map word_bytes def.parents.now;
}
