use Rattle.std.proofs.Common.{length, ◌≡◌}
use Rattle.user_patterns_data.specs.Shapes.{pattern_model}
use Rattle.user_patterns_data.specs.Depth.{is_shallow_by}
use Rattle.user_patterns_data.proofs.depth.is_shallow_by.Given as goal

abbrev pub invariant-pattern_ops : goal.invariant-pattern_ops
invariant-pattern_ops l = is_shallow_by l.rest (pattern_model l.fn.pattern) ≡ is_shallow_by l.fn.pattern_ops (pattern_model l.fn.pattern)

abbrev pub decreases-pattern_ops : goal.decreases-pattern_ops
decreases-pattern_ops l = length l.rest
