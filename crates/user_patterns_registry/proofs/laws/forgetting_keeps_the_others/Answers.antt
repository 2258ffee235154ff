use Rattle.user_patterns_registry.proofs.Forgetting.{forgets_nothing, forgets_one, forgetting_keeps_a_registry}
use Rattle.user_patterns_registry.proofs.laws.forgetting_keeps_the_others.Goals as goal

pub returns-clause-registry : goal.returns-clause-registry
returns-clause-registry c = forgetting_keeps_a_registry

pub returns-clause-one : goal.returns-clause-one
returns-clause-one c = forgets_one

pub returns-clause-nothing : goal.returns-clause-nothing
returns-clause-nothing c = forgets_nothing
