-- The number of events of an edit.
use Rattle.std.specs.Prelude.{ℕ, length}
use Rattle.ir_event.specs.trees.Ids.{find, op_count}
use Rattle.ir_event.specs.trees.Uses.{uses_of}
use Rattle.ir_event.specs.trees.WellFormed.{ModuleOf}
use Rattle.rewriter_machine.specs.Edits.{EditOf, Insert, Make, Erase, Move, SetOperand, Replace, SetAttr, DropAttr}
use Rattle.rewriter_machine.specs.Erasing.{ids_in}

-- one event for each operation that is inserted or erased, one for each use that is replaced, and one for any other
-- edit
abbrev pub event_count : {N T A : Type 0} → EditOf N T A → ModuleOf N T A → ℕ
event_count (Insert place o) m = op_count o
event_count (Make place o) m = 1
event_count (Erase x) m = length (ids_in (find x m.tree))
event_count (Move x place) m = 1
event_count (SetOperand x k v) m = 1
event_count (Replace old new) m = length (uses_of old m.tree)
event_count (SetAttr x k a) m = 1
event_count (DropAttr x k) m = 1
