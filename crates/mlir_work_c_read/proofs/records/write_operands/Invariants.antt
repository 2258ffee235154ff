use Rattle.std.proofs.Common.{length, map}
use Rattle.mlir_work_c_read.specs.Records.{operand_item}
use Rattle.mlir_work_c_read.proofs.Joining.{ContinuesFrom}
use Rattle.mlir_work_c_read.proofs.records.write_operands.Given as goal

abbrev pub invariant-operands : goal.invariant-operands
invariant-operands l = ContinuesFrom (map operand_item l.rest) (map operand_item l.fn.operands) l.fn.at l.place l.into l.initial.into

abbrev pub decreases-operands : goal.decreases-operands
decreases-operands l = length l.rest
