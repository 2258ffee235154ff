use Rattle.ir_text_types.proofs.Unique.{type_one, function_type_one}
use Rattle.ir_text_types.proofs.laws.types_have_one_reading.Goals as goal

pub returns-clause-ty : goal.returns-clause-ty
returns-clause-ty _ o depth bytes rest other y z = type_one o depth bytes y z rest other

pub returns-clause-function : goal.returns-clause-function
returns-clause-function _ o bytes rest other y z = function_type_one o bytes y z rest other
