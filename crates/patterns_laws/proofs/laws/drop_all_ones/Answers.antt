use Rattle.patterns_laws.proofs.PairRules.{ones_kept}
use Rattle.patterns_laws.proofs.laws.drop_all_ones.Goals as goal

pub returns : goal.returns
returns c = ones_kept
