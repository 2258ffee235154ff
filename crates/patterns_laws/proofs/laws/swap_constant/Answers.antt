use Rattle.patterns_laws.proofs.PairRules.{all_swapped}
use Rattle.patterns_laws.proofs.laws.swap_constant.Goals as goal

pub returns : goal.returns
returns c = all_swapped
