use Rattle.patterns_refinement.proofs.Improved.{rewrites_compute_better}
use Rattle.patterns_refinement.proofs.refinement.rewrites_compute_no_less.Goals as goal

pub returns : goal.returns
returns c = rewrites_compute_better c.pattern_edits_are_accepted.ensures
