use Rattle.patterns_laws.proofs.PairRules.{all_left_nothing}
use Rattle.patterns_laws.proofs.laws.zero_remainder.Goals as goal

pub returns : goal.returns
returns c = all_left_nothing
