use Rattle.std.proofs.Common.{◌≡◌, length}
use Rattle.std.specs.List.{list_all}
use Rattle.user_patterns_data.specs.Shapes.{pattern_model}
use Rattle.user_patterns_data.specs.WellFormed.{is_variable}
use Rattle.user_patterns_data.proofs.well_formed.are_variables.Given as goal

abbrev pub invariant-places : goal.invariant-places
invariant-places l = list_all (is_variable (pattern_model l.fn.pattern)) l.rest ≡ list_all (is_variable (pattern_model l.fn.pattern)) l.fn.places

abbrev pub decreases-places : goal.decreases-places
decreases-places l = length l.rest
