use Rattle.patterns_laws.proofs.PairRules.{all_zero_kept}
use Rattle.patterns_laws.proofs.laws.drop_zero.Goals as goal

pub returns : goal.returns
returns c = all_zero_kept
