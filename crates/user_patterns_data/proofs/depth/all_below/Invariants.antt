use Rattle.std.proofs.Common.{length, ◌≡◌}
use Rattle.std.specs.List.{list_all}
use Rattle.user_patterns_data.specs.Depth.{takes_below}
use Rattle.user_patterns_data.proofs.depth.all_below.Given as goal

abbrev pub invariant-pattern_ops : goal.invariant-pattern_ops
invariant-pattern_ops l = list_all (takes_below l.fn.place) l.rest ≡ list_all (takes_below l.fn.place) l.fn.pattern_ops

abbrev pub decreases-pattern_ops : goal.decreases-pattern_ops
decreases-pattern_ops l = length l.rest
