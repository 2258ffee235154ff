use Rattle.patterns_refinement.proofs.Going.{checked_plans_go, plans_go}
use Rattle.patterns_refinement.proofs.laws.plans_keep_what_is_computed.Goals as goal

pub returns-clause-plans : goal.returns-clause-plans
returns-clause-plans c = plans_go

pub returns-clause-checked : goal.returns-clause-checked
returns-clause-checked c = checked_plans_go
