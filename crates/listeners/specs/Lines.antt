-- The report rows of a table of roles, in numbers.
use Rattle.std.specs.Prelude.{ℕ, List, map, Bool, is_none}
use Rattle.ir_event.specs.declared.row.Cell.{Cell}
use Rattle.ir_event.specs.declared.row.Cell.TheVariants as cell
use Rattle.listeners_symbols.specs.declared.role.Role.{Role as Numbers}
use Rattle.listeners_symbols.specs.Table.{role_numbers}
use Rattle.listeners.specs.Unreached.{line_cells, line_of, private_name}
use Rattle.listeners.specs.Marking.{Left}

-- the cells of rows
abbrev pub lines_cells : List (ℕ × ℕ) → List (List Cell)
lines_cells ls = map (line_cells cell.Op cell.Name) ls

-- whether a definition is marked
abbrev pub is_out : Left → ℕ → Bool
is_out left x = is_none (left x)

-- the row of an operation, by its table entry
abbrev pub line_by : Left → ℕ → Numbers → List (ℕ × ℕ)
line_by left x r = line_of (is_out left x) x (private_name (role_numbers r))
