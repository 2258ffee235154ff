-- The report rows of a table of roles, in numbers.
use Rattle.std.specs.Prelude.{◌≡◌, ℕ, List, map, eqb, Bool, Option, option_map}
use Rattle.std.specs.Ordering.{nat_cmp, ordering_then}
use Rattle.std.specs.declared.cmp.Ordering.{Ordering}
use Rattle.std.specs.BTreeMap.{BTreeMap}
use Rattle.std.specs.BTreeMap as tree
use Rattle.std.specs.BTreeSet.{BTreeSet, contains}
use Rattle.ir_event.specs.declared.row.Cell.{Cell}
use Rattle.ir_event.specs.declared.row.Cell.TheVariants as cell
use Rattle.ir_event.specs.declared.row.Row.{Row}
use Rattle.listeners_symbols.specs.declared.role.Role.{Role as Numbers}
use Rattle.listeners_symbols.specs.declared.roles.Roles.{Roles}
use Rattle.listeners_symbols.specs.Table.{call_numbers, reference_of, role_numbers}
use Rattle.listeners_symbols.specs.Listeners.{kept_at}
use Rattle.listeners_symbols.specs.Symbols.{RolesOf, RoleAt, LineOf, DefinitionOf, defined, first_defined, is_among, line_cells, reference_lines}
use Rattle.listeners_symbols.specs.Symbols.{call_line, undefined}

-- the roles of a table, ordered by id and as a function of the id
abbrev pub numbered : List (ℕ × Numbers) → RolesOf ℕ ℕ ℕ
numbered es = map (λ (e : ℕ × Numbers). (e.0, role_numbers e.1)) es

abbrev pub numbers_at : Roles → RoleAt ℕ ℕ ℕ
numbers_at m x = option_map role_numbers (kept_at m x)

-- the contributions of an operation, by its entry: its definition, its name if it isn't a definition, the rows of its
-- references, and the row of its call
abbrev pub defined_by : ℕ → Numbers → List (DefinitionOf ℕ)
defined_by x r = defined r.home r.symbol x

abbrev pub undefined_by : ℕ → Numbers → List ℕ
undefined_by x r = undefined r.home r.symbol r.name

abbrev pub references_by : RoleAt ℕ ℕ ℕ → List (DefinitionOf ℕ) → (ℕ → Bool) → Bool → ℕ → Numbers → List (LineOf ℕ ℕ)
references_by roles ds possible resolved x r =
    reference_lines eqb roles ds possible resolved x r.table (map reference_of r.references.items)

abbrev pub call_by : RoleAt ℕ ℕ ℕ → List (DefinitionOf ℕ) → ℕ → Numbers → List (LineOf ℕ ℕ)
call_by roles ds x r = call_line eqb eqb roles ds x r.table (option_map call_numbers r.call)

-- the cells of report rows, and of lines
abbrev pub cells_of : List Row → List (List Cell)
cells_of rows = map (λ (r : Row). r.cells.items) rows

abbrev pub lines_cells : List (LineOf ℕ ℕ) → List (List Cell)
lines_cells ls = map (line_cells cell.Tag cell.Op cell.Name cell.Path) ls

-- the order of names in symbol tables, and the entry of a map
abbrev pub key_cmp : ℕ × ℕ → ℕ × ℕ → Ordering
key_cmp k l = ordering_then (nat_cmp k.0 l.0) (nat_cmp k.1 l.1)

abbrev pub first_in : BTreeMap (ℕ × ℕ) ℕ → ℕ → ℕ → Option ℕ
first_in m table name = tree.get key_cmp m (table, name)

-- the map has the first definition of each name
abbrev pub HasFirst : List (DefinitionOf ℕ) → BTreeMap (ℕ × ℕ) ℕ → Type 0
HasFirst ds m = (table name : ℕ) → first_in m table name ≡ first_defined eqb table name ds

-- the set has exactly these names
abbrev pub HasNames : List ℕ → BTreeSet ℕ → Type 0
HasNames names s = (n : ℕ) → contains nat_cmp s n ≡ is_among eqb names n
