use Rattle.ir_text.proofs.WholeHeadroom.{op_headroom, op_left, ops_headroom}
use Rattle.ir_text.proofs.capacity_laws.operations_fit.Goals as goal

pub returns-clause-headroom : goal.returns-clause-headroom
returns-clause-headroom c = op_headroom

pub returns-clause-left : goal.returns-clause-left
returns-clause-left c = op_left

pub returns-clause-all : goal.returns-clause-all
returns-clause-all c = ops_headroom
