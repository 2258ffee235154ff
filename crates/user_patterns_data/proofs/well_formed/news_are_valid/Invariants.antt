use Rattle.std.proofs.Common.{◌≡◌, length, Fits, w64}
use Rattle.user_patterns_data.specs.Shapes.{pattern_model}
use Rattle.user_patterns_data.specs.WellFormed.{news_are_valid}
use Rattle.user_patterns_data.proofs.well_formed.news_are_valid.Given as goal

abbrev pub invariant-new : goal.invariant-new
invariant-new l = (news_are_valid (pattern_model l.fn.pattern) l.fn.end l.rest ≡ news_are_valid (pattern_model l.fn.pattern) l.fn.end l.fn.new) × Fits w64 (length l.rest)

abbrev pub decreases-new : goal.decreases-new
decreases-new l = length l.rest
