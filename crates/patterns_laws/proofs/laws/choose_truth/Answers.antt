use Rattle.patterns_laws.proofs.Chosen.{truth_chosen}
use Rattle.patterns_laws.proofs.laws.choose_truth.Goals as goal

pub returns : goal.returns
returns c = truth_chosen
