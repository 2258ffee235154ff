use Rattle.patterns_laws.proofs.Composed.{all_divided}
use Rattle.patterns_laws.proofs.laws.expand_remainder.Goals as goal

pub returns : goal.returns
returns c = all_divided
