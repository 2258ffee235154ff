use Rattle.patterns_laws.proofs.Lowered.{all_chosen}
use Rattle.patterns_laws.proofs.laws.expand_min_max.Goals as goal

pub returns : goal.returns
returns c = all_chosen
