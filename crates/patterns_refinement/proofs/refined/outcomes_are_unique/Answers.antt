use Rattle.patterns_refinement.proofs.Unique.{outcomes_are_unique}
use Rattle.patterns_refinement.proofs.refined.outcomes_are_unique.Goals as goal

pub returns : goal.returns
returns c = outcomes_are_unique
