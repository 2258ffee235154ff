use Rattle.ir_text.proofs.WholeHeadroom.{type_headroom, type_left, function_type_headroom}
use Rattle.ir_text.proofs.capacity_laws.types_fit.Goals as goal

pub returns-clause-headroom : goal.returns-clause-headroom
returns-clause-headroom c = type_headroom

pub returns-clause-left : goal.returns-clause-left
returns-clause-left c = type_left

pub returns-clause-function : goal.returns-clause-function
returns-clause-function c = function_type_headroom
