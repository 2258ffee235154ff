use Rattle.patterns_refinement.proofs.Themselves.{may_stand_for_themselves}
use Rattle.patterns_refinement.proofs.refined.values_may_stand_for_themselves.Goals as goal

pub returns : goal.returns
returns c = may_stand_for_themselves
