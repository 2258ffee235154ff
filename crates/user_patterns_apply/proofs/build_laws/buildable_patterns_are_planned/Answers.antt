use Rattle.std.proofs.Common.{ap}
use Rattle.user_patterns_data.specs.Matching.{when}
use Rattle.user_patterns_data.specs.Planning.{planned}
use Rattle.user_patterns_apply.proofs.build_laws.buildable_patterns_are_planned.Goals as goal

pub returns : goal.returns
returns c = λ t verified n p x e. ap (λ b. when b (planned t verified n p x)) e
