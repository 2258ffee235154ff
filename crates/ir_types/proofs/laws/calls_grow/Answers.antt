use Rattle.ir_types.proofs.Growth.{grows_name, grows_type, grows_attr}
use Rattle.ir_types.proofs.laws.calls_grow.Goals as goal

pub returns-clause-name : goal.returns-clause-name
returns-clause-name _ = grows_name

pub returns-clause-ty : goal.returns-clause-ty
returns-clause-ty _ = grows_type

pub returns-clause-attr : goal.returns-clause-attr
returns-clause-attr _ = grows_attr
