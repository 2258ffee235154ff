use Rattle.dialects_int.proofs.CastLaws.{less_constant, less_by_complement}
use Rattle.dialects_int.proofs.laws.differences_are_sums.Goals as goal

pub returns-clause-negation : goal.returns-clause-negation
returns-clause-negation c w a d hd = less_constant w a d hd

pub returns-clause-complement : goal.returns-clause-complement
returns-clause-complement c w a b hb = less_by_complement w a b hb
