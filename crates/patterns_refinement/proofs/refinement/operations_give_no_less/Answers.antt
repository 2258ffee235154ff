use Rattle.patterns_refinement.proofs.Monotone.{monotone}
use Rattle.patterns_refinement.proofs.refinement.operations_give_no_less.Goals as goal

pub returns : goal.returns
returns c = monotone
