use Rattle.std.proofs.Common.{◌≡◌, length}
use Rattle.std.specs.List.{list_any}
use Rattle.mlir_work_notes.specs.Standing.{comes_from}
use Rattle.mlir_work_notes.proofs.existing_ops.any_comes_from.Given as goal

abbrev pub invariant-operands : goal.invariant-operands
invariant-operands l = list_any (comes_from l.fn.op l.store.module_of.tree) l.rest ≡ list_any (comes_from l.fn.op l.store.module_of.tree) l.fn.operands

abbrev pub decreases-operands : goal.decreases-operands
decreases-operands l = length l.rest
