-- The uses of a table: those of the changed operations, and the listed uses of the others.
use Rattle.std.specs.Prelude.{ℕ, List, [], ◌∷◌, ◌++◌, Bool, not, is_some}
use Rattle.listeners_support.specs.Map.{IdMap}
use Rattle.listeners_support.specs.Map as idmap
use Rattle.listeners.specs.declared.key.Use.{Use}
use Rattle.listeners.specs.declared.operand_change.OperandChange.{OperandChange}
use Rattle.listeners.specs.declared.table.UseTable.{UseTable}
use Rattle.listeners.specs.Uses.{operand_uses}
use Rattle.listeners.specs.Others.{only}

-- the uses of operations with their current operands
abbrev pub changed_uses : List (ℕ × OperandChange) → List Use
changed_uses [] = []
changed_uses (e ∷ es) = operand_uses e.0 0 e.1.operands.items ++ changed_uses es

-- whether an operation is unchanged
abbrev pub is_unchanged : IdMap OperandChange → ℕ → Bool
is_unchanged changed x = not (is_some (idmap.get changed x))

-- the uses of the table
abbrev pub table_uses : UseTable → List Use
table_uses t = changed_uses t.changed.entries ++ only (is_unchanged t.changed) t.listed
