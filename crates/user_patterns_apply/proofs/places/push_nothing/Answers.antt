use Rattle.std.proofs.Common.{ap, ◌∙◌, ◌-◌, ◌++◌}
use Rattle.user_patterns_data.specs.Matching.{nothing}
use Rattle.user_patterns_apply.proofs.Placed.{one_nothing}
use Rattle.user_patterns_apply.proofs.places.push_nothing.Goals as goal

pub left-preserved : goal.left-preserved
left-preserved c = ap (λ z. z ++ nothing (c.left.left - 1)) c.in_ok-push.ensures.items ∙ one_nothing c.left.values.items c.left.left c.left-test.true ∙ c.left.invariant
