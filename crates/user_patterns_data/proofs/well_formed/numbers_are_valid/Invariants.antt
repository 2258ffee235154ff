use Rattle.std.proofs.Common.{◌≡◌, length, Fits, w64}
use Rattle.user_patterns_data.specs.Shapes.{pattern_model}
use Rattle.user_patterns_data.specs.WellFormed.{numbers_are_valid}
use Rattle.user_patterns_data.proofs.well_formed.numbers_are_valid.Given as goal

abbrev pub invariant-numbers : goal.invariant-numbers
invariant-numbers l = (numbers_are_valid (pattern_model l.fn.pattern) l.fn.end l.rest ≡ numbers_are_valid (pattern_model l.fn.pattern) l.fn.end l.fn.numbers) × Fits w64 (length l.rest)

abbrev pub decreases-numbers : goal.decreases-numbers
decreases-numbers l = length l.rest
