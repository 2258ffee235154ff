use Rattle.patterns_laws.proofs.Chosen.{chosen_by_constant}
use Rattle.patterns_laws.proofs.laws.choose_known.Goals as goal

pub returns : goal.returns
returns c = chosen_by_constant
