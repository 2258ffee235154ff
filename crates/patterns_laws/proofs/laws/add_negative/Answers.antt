use Rattle.patterns_laws.proofs.Composed.{negative_added}
use Rattle.patterns_laws.proofs.laws.add_negative.Goals as goal

pub returns : goal.returns
returns c = negative_added
