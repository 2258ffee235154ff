use Rattle.mlir_work_c_read.specs.Bulk.{operands_of}
use Rattle.mlir_work_c_read.specs.Operations.{tree_in}
use Rattle.mlir_work_c_read.proofs.Joining.{step_on}
use Rattle.mlir_work_c_read.proofs.bulk.write_operands.Goals as goal

pub ops-preserved : goal.ops-preserved
ops-preserved c =
    step_on (operands_of (tree_in c.args.world.now)) c.ops.rest.now c.new.result _ _ c.ops.at c.write_operands_of-at.result c.ops.into c.write_operands_of-at.new.into c.args.into.now
    c.in-len1-up.len_at_least c.new.ensures c.write_operands_of-at.ensures.written c.write_operands_of-at.ensures.count c.ops.invariant
