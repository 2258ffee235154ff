use Rattle.patterns_laws.proofs.Chosen.{chosen_by_opposite}
use Rattle.patterns_laws.proofs.laws.choose_opposite.Goals as goal

pub returns : goal.returns
returns c = chosen_by_opposite
