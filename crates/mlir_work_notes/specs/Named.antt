-- The operations and values that a command names.
use Rattle.std.specs.Prelude.{ℕ, Option, Some, None}
use Rattle.ir_event.specs.trees.declared.value.Value.{Value}
use Rattle.rewriter_machine.specs.Commands.{Command, Apply, DropAttr, Erase, Insert, Move, Replace, SetAttr, SetOperand}
use Rattle.rewriter_machine.specs.Points.{Point, Before, After, Start, End}

-- the operation that the command changes
abbrev pub subject_of : Command → Option ℕ
subject_of (Erase x) = Some x
subject_of (Move x point) = Some x
subject_of (SetOperand x k v) = Some x
subject_of (SetAttr x key a) = Some x
subject_of (DropAttr x key) = Some x
subject_of (Apply name x) = Some x
subject_of _ = None

-- the operation that an insertion point names
abbrev pub point_op : Point → ℕ
point_op (Before x) = x
point_op (After x) = x
point_op (Start x r) = x
point_op (End x r) = x

-- the operation that the command's insertion point names
abbrev pub place_of_command : Command → Option ℕ
place_of_command (Move x point) = Some (point_op point)
place_of_command (Insert point text) = Some (point_op point)
place_of_command _ = None

-- the operation whose region or operand the command names
abbrev pub holder_of : Command → Option ℕ
holder_of (Move x point) = Some (point_op point)
holder_of (Insert point text) = Some (point_op point)
holder_of (SetOperand x k v) = Some x
holder_of _ = None

-- the operation whose attribute the command sets, and the one whose attribute it removes
abbrev pub entry_set : Command → Option ℕ
entry_set (SetAttr x key a) = Some x
entry_set _ = None

abbrev pub entry_dropped : Command → Option ℕ
entry_dropped (DropAttr x key) = Some x
entry_dropped _ = None

-- the value that the command replaces
abbrev pub value_replaced : Command → Option Value
value_replaced (Replace old new) = Some old
value_replaced _ = None

-- the value that the command uses in place of another
abbrev pub value_given : Command → Option Value
value_given (Replace old new) = Some new
value_given (SetOperand x k v) = Some v
value_given _ = None
