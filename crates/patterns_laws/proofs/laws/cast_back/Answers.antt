use Rattle.patterns_laws.proofs.Recast.{all_came_back}
use Rattle.patterns_laws.proofs.laws.cast_back.Goals as goal

pub returns : goal.returns
returns c = all_came_back
