use Rattle.ir_types.proofs.CallNumbers.{new_name, new_type, new_attr}
use Rattle.ir_types.proofs.laws.new_numbers.Goals as goal

pub returns-clause-name : goal.returns-clause-name
returns-clause-name _ = new_name

pub returns-clause-ty : goal.returns-clause-ty
returns-clause-ty _ = new_type

pub returns-clause-attr : goal.returns-clause-attr
returns-clause-attr _ = new_attr
