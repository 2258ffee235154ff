-- Terms for the limits of reads.
use Rattle.std.specs.Prelude.{ℕ, max, length, Option, Some, None}
use Rattle.ir_store.specs.trees.Tree.{OpOf, head}
use Rattle.ir_store.specs.trees.Ids.{find}
use Rattle.ir_event.specs.declared.event.Event.{Event}
use Rattle.ir_event.specs.declared.event.Event.TheVariants.{Put, Take, SetOperand, SetEntry, Shift}
use Rattle.ir_event.specs.Modules.{Module}

-- the operation of an event
abbrev pub op_of : Event → ℕ
op_of (Put x place fresh) = x
op_of (Take x place fresh) = x
op_of (SetOperand x k old new) = x
op_of (SetEntry x part key old new) = x
op_of (Shift x old new) = x

-- the number of operands of an operation, 0 if there is none
abbrev pub operand_count : {N T A : Type 0} → Option (OpOf N T A) → ℕ
operand_count None = 0
operand_count (Some o) = length (head o).operands

-- the number of operands of an event's operation, before or after the event, whichever is greater
abbrev pub operands_of : Event → Module → Module → ℕ
operands_of e m n = max (operand_count (find (op_of e) m.tree)) (operand_count (find (op_of e) n.tree))
