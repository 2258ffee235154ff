use Rattle.patterns_refinement.proofs.Verified.{verified_is_ready}
use Rattle.patterns_refinement.proofs.refined.modules_without_diagnostics_are_ready.Goals as goal

pub returns : goal.returns
returns c = verified_is_ready
