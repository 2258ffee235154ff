use Rattle.dialects_int.proofs.CastLaws.{with_itself, below_zero, not_below_zero}
use Rattle.dialects_int.proofs.laws.comparisons_known.Goals as goal

pub returns-clause-itself : goal.returns-clause-itself
returns-clause-itself c p w a = with_itself p w a

pub returns-clause-below_zero : goal.returns-clause-below_zero
returns-clause-below_zero c w a = below_zero w a

pub returns-clause-not_below_zero : goal.returns-clause-not_below_zero
returns-clause-not_below_zero c w a = not_below_zero w a
