use Rattle.patterns_laws.proofs.Chosen.{itself_compared}
use Rattle.patterns_laws.proofs.laws.compare_itself.Goals as goal

pub returns : goal.returns
returns c = itself_compared
