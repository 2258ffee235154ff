use Rattle.user_patterns_registry.proofs.Registries.{adds_one, nothing_is_a_registry, noting_keeps_a_registry, stays_a_registry}
use Rattle.user_patterns_registry.proofs.laws.what_is_defined_is_ready.Goals as goal

pub returns-clause-empty : goal.returns-clause-empty
returns-clause-empty c = nothing_is_a_registry

pub returns-clause-registry : goal.returns-clause-registry
returns-clause-registry c = stays_a_registry

pub returns-clause-noted : goal.returns-clause-noted
returns-clause-noted c = noting_keeps_a_registry

pub returns-clause-one : goal.returns-clause-one
returns-clause-one c = adds_one
