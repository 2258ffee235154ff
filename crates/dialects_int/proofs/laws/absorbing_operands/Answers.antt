use Rattle.dialects_int.proofs.PairLaws.{absorbed, absorbed_right}
use Rattle.dialects_int.proofs.laws.absorbing_operands.Goals as goal

pub returns-clause-left : goal.returns-clause-left
returns-clause-left c o w a b hb h = absorbed o w a b hb h

pub returns-clause-right : goal.returns-clause-right
returns-clause-right c o w a b ha h = absorbed_right o w a b ha h
