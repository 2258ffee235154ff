use Rattle.patterns_laws.proofs.PairRules.{all_cancelled}
use Rattle.patterns_laws.proofs.laws.cancel_itself.Goals as goal

pub returns : goal.returns
returns c = all_cancelled
