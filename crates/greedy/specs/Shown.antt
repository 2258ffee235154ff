-- The operands that a store shows of operations.
use Rattle.std.specs.Prelude.{ℕ, List, [], Option, Some, None}
use Rattle.ir_event.specs.trees.declared.value.Value.{Value}
use Rattle.ir_event.specs.trees.Tree.{Op, head}
use Rattle.ir_event.specs.store.Stored.{Stored, known}

-- the operands of an optional operation
abbrev pub operands_found : Option Op → List Value
operands_found None = []
operands_found (Some o) = (head o).operands

-- the operands of an operation of the module, or of a held operation outside it
abbrev pub shown_operands : Stored → ℕ → List Value
shown_operands s x = operands_found (known x s)
