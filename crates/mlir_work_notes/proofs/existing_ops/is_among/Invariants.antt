use Rattle.std.proofs.Common.{◌≡◌, length}
use Rattle.std.specs.List.{list_any}
use Rattle.ir_event.specs.trees.Uses.{same_value}
use Rattle.mlir_work_notes.proofs.existing_ops.is_among.Given as goal

abbrev pub invariant-operands : goal.invariant-operands
invariant-operands l = list_any (same_value l.fn.value) l.rest ≡ list_any (same_value l.fn.value) l.fn.operands

abbrev pub decreases-operands : goal.decreases-operands
decreases-operands l = length l.rest
