use Rattle.std.proofs.Common.{length}
use Rattle.mlir_work_c_read.specs.Bulk.{all_operands}
use Rattle.mlir_work_c_read.specs.Operations.{tree_in}
use Rattle.mlir_work_c_read.proofs.Joining.{Continues}
use Rattle.mlir_work_c_read.proofs.bulk.write_operands.Given as goal

abbrev pub invariant-ops : goal.invariant-ops
invariant-ops l = Continues (all_operands (tree_in l.fn.world) l.rest) (all_operands (tree_in l.fn.world) l.fn.ops) l.at l.into l.initial.into

abbrev pub decreases-ops : goal.decreases-ops
decreases-ops l = length l.rest
