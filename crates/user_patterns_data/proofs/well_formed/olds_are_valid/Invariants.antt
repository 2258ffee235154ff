use Rattle.std.proofs.Common.{◌≡◌, length, Fits, w64}
use Rattle.user_patterns_data.specs.Shapes.{pattern_model}
use Rattle.user_patterns_data.specs.WellFormed.{olds_are_valid}
use Rattle.user_patterns_data.proofs.well_formed.olds_are_valid.Given as goal

abbrev pub invariant-old : goal.invariant-old
invariant-old l = (olds_are_valid (pattern_model l.fn.pattern) l.fn.end l.rest ≡ olds_are_valid (pattern_model l.fn.pattern) l.fn.end l.fn.old) × Fits w64 (length l.rest)

abbrev pub decreases-old : goal.decreases-old
decreases-old l = length l.rest
