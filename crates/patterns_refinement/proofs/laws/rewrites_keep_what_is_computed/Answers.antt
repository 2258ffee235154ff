use Rattle.patterns_refinement.proofs.Applying.{checked_keeps}
use Rattle.patterns_refinement.proofs.Improved.{rewrites_compute}
use Rattle.patterns_refinement.proofs.laws.rewrites_keep_what_is_computed.Goals as goal

pub returns-clause-rewrites : goal.returns-clause-rewrites
returns-clause-rewrites c = rewrites_compute

pub returns-clause-checked : goal.returns-clause-checked
returns-clause-checked c = checked_keeps
