use Rattle.std.proofs.Common.{length, ◌≡◌, ◌+◌}
use Rattle.user_patterns_data.specs.Depth.{is_inner}
use Rattle.user_patterns_data.proofs.depth.is_inner.Given as goal

abbrev pub invariant-pattern_ops : goal.invariant-pattern_ops
invariant-pattern_ops l =
    (is_inner l.fn.root l.fn.place l.at l.rest ≡ is_inner l.fn.root l.fn.place l.fn.from l.fn.pattern_ops)
    × (l.at + length l.rest ≡ l.fn.from + length l.fn.pattern_ops)

abbrev pub decreases-pattern_ops : goal.decreases-pattern_ops
decreases-pattern_ops l = length l.rest
