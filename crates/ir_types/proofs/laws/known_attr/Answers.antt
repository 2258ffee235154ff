use Rattle.ir_types.proofs.AcceptedCalls.{known_attr_reason}
use Rattle.ir_types.proofs.CallNumbers.{known_attr}
use Rattle.ir_types.proofs.laws.known_attr.Goals as goal

pub returns-clause-answer : goal.returns-clause-answer
returns-clause-answer _ = known_attr

pub returns-clause-fine : goal.returns-clause-fine
returns-clause-fine _ = known_attr_reason
