use Rattle.patterns_laws.proofs.PairRules.{all_one_kept}
use Rattle.patterns_laws.proofs.laws.drop_one.Goals as goal

pub returns : goal.returns
returns c = all_one_kept
