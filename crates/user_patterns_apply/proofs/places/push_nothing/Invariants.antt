use Rattle.std.proofs.Common.{◌++◌, ◌≡◌}
use Rattle.user_patterns_data.specs.Matching.{nothing}
use Rattle.user_patterns_apply.proofs.places.push_nothing.Given as goal

abbrev pub invariant-left : goal.invariant-left
invariant-left l = l.values.items ++ nothing l.left ≡ l.fn.values.items ++ nothing l.fn.count

abbrev pub decreases-left : goal.decreases-left
decreases-left l = l.left
