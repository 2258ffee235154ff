use Rattle.patterns_laws.proofs.Lowered.{folded}
use Rattle.patterns_laws.proofs.laws.fold_to_constant.Goals as goal

pub returns : goal.returns
returns c = folded
