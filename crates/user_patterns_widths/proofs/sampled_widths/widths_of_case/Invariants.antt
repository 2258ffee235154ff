use Rattle.std.proofs.Common.{◌≡◌, ◌++◌, length, map}
use Rattle.user_patterns_data.specs.Shapes.{pattern_model}
use Rattle.user_patterns_widths.specs.SampledWidths.{level_width, widths_of_case}
use Rattle.user_patterns_widths.proofs.sampled_widths.widths_of_case.Given as goal

abbrev pub invariant-levels : goal.invariant-levels
invariant-levels l = l.widths.items ++ map (level_width l.fn.width) l.rest ≡ widths_of_case (pattern_model l.fn.pattern) l.fn.width l.fn.numbers

abbrev pub decreases-levels : goal.decreases-levels
decreases-levels l = length l.rest
