use Rattle.ir_event.proofs.Steps.{wellformed_meaning, sorted_meaning, operand_steps}
use Rattle.ir_event.proofs.laws.operands_are_set_by_steps.Goals as goal

pub returns-clause-wellformed : goal.returns-clause-wellformed
returns-clause-wellformed _ c m w = wellformed_meaning c m w

pub returns-clause-sorted : goal.returns-clause-sorted
returns-clause-sorted _ c m s = sorted_meaning c m s

pub returns-clause-step : goal.returns-clause-step
returns-clause-step _ c x k old new m w v s e = operand_steps c x k old new m w v s e
