use Rattle.patterns_laws.proofs.Composed.{complement_added}
use Rattle.patterns_laws.proofs.laws.expand_difference.Goals as goal

pub returns : goal.returns
returns c = complement_added
