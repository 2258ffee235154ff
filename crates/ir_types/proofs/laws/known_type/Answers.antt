use Rattle.ir_types.proofs.AcceptedCalls.{known_type_reason}
use Rattle.ir_types.proofs.CallNumbers.{known_type}
use Rattle.ir_types.proofs.laws.known_type.Goals as goal

pub returns-clause-answer : goal.returns-clause-answer
returns-clause-answer _ = known_type

pub returns-clause-fine : goal.returns-clause-fine
returns-clause-fine _ c n node s at = known_type_reason c n node s.holds at
