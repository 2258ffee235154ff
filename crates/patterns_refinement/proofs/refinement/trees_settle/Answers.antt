use Rattle.patterns_refinement.proofs.Settling.{settles}
use Rattle.patterns_refinement.proofs.refinement.trees_settle.Goals as goal

pub returns : goal.returns
returns c = settles
