use Rattle.patterns_refinement.proofs.Rewritten.{rewritten_computes}
use Rattle.patterns_refinement.proofs.laws.rewritten_trees_compute_the_same.Goals as goal

pub returns : goal.returns
returns c = rewritten_computes
