use Rattle.std.proofs.Common.{◌≡◌, length}
use Rattle.std.specs.List.{list_all}
use Rattle.user_patterns_data.specs.Shapes.{pattern_model}
use Rattle.user_patterns_data.specs.WellFormed.{extra_is_valid}
use Rattle.user_patterns_data.proofs.well_formed.extras_are_valid.Given as goal

abbrev pub invariant-extra : goal.invariant-extra
invariant-extra l = list_all (extra_is_valid (pattern_model l.fn.pattern)) l.rest ≡ list_all (extra_is_valid (pattern_model l.fn.pattern)) l.fn.extra

abbrev pub decreases-extra : goal.decreases-extra
decreases-extra l = length l.rest
