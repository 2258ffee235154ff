use Rattle.ir_types.proofs.AcceptedCalls.{accepted_name, accepted_type, accepted_attr}
use Rattle.ir_types.proofs.laws.calls_keep_sound.Goals as goal

pub returns-clause-name : goal.returns-clause-name
returns-clause-name _ = accepted_name

pub returns-clause-ty : goal.returns-clause-ty
returns-clause-ty _ = accepted_type

pub returns-clause-attr : goal.returns-clause-attr
returns-clause-attr _ = accepted_attr
