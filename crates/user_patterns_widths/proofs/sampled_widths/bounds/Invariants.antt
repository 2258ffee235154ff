use Rattle.std.proofs.Common.{◌≡◌, ◌++◌, replicate}
use Rattle.user_patterns_widths.specs.SampledWidths.{levels}
use Rattle.user_patterns_widths.proofs.sampled_widths.bounds.Given as goal

abbrev pub invariant-types : goal.invariant-types
invariant-types l = l.bounds.items ++ replicate l.left levels ≡ replicate l.fn.types levels

abbrev pub decreases-types : goal.decreases-types
decreases-types l = l.left
