use Rattle.user_patterns_registry.proofs.Replacing.{replacing_keeps_a_registry}
use Rattle.user_patterns_registry.proofs.laws.replacing_keeps_the_others.Goals as goal

pub returns : goal.returns
returns c = replacing_keeps_a_registry
