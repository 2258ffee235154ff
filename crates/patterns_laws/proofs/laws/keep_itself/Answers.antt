use Rattle.patterns_laws.proofs.PairRules.{all_itself_given}
use Rattle.patterns_laws.proofs.laws.keep_itself.Goals as goal

pub returns : goal.returns
returns c = all_itself_given
