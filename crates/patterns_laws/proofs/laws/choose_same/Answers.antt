use Rattle.patterns_laws.proofs.Chosen.{one_chosen}
use Rattle.patterns_laws.proofs.laws.choose_same.Goals as goal

pub returns : goal.returns
returns c = one_chosen
