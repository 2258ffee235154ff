use Rattle.dialects_int.proofs.PairLaws.{zero_ignored, one_ignored, ones_ignored}
use Rattle.dialects_int.proofs.laws.neutral_operands.Goals as goal

pub returns-clause-zero : goal.returns-clause-zero
returns-clause-zero c o w a some ha h = zero_ignored o w a some ha h

pub returns-clause-one : goal.returns-clause-one
returns-clause-one c o w a v some ha h e = one_ignored o w a v some ha h e

pub returns-clause-ones : goal.returns-clause-ones
returns-clause-ones c w a ha = ones_ignored w a ha
