use Rattle.ir_types.proofs.AcceptedCalls.{known_name_reason}
use Rattle.ir_types.proofs.CallNumbers.{known_name}
use Rattle.ir_types.proofs.laws.known_name.Goals as goal

pub returns-clause-answer : goal.returns-clause-answer
returns-clause-answer _ = known_name

pub returns-clause-fine : goal.returns-clause-fine
returns-clause-fine _ c n bytes s at = known_name_reason c n bytes at
