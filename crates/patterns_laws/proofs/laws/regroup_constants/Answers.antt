use Rattle.patterns_laws.proofs.Composed.{all_regrouped}
use Rattle.patterns_laws.proofs.laws.regroup_constants.Goals as goal

pub returns : goal.returns
returns c = all_regrouped
