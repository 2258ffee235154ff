use Rattle.std.proofs.Common.{length, ◌≡◌, ◌+◌}
use Rattle.user_patterns_data.specs.Depth.{are_near}
use Rattle.user_patterns_data.proofs.depth.are_near.Given as goal

abbrev pub invariant-pattern_ops : goal.invariant-pattern_ops
invariant-pattern_ops l =
    (are_near l.fn.root_place l.fn.root l.at l.rest ≡ are_near l.fn.root_place l.fn.root l.fn.from l.fn.pattern_ops)
    × (l.at + length l.rest ≡ l.fn.from + length l.fn.pattern_ops)

abbrev pub decreases-pattern_ops : goal.decreases-pattern_ops
decreases-pattern_ops l = length l.rest
