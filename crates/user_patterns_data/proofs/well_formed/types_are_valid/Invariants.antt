use Rattle.std.proofs.Common.{◌≡◌, length}
use Rattle.std.specs.List.{list_all}
use Rattle.user_patterns_data.specs.Shapes.{pattern_model}
use Rattle.user_patterns_data.specs.WellFormed.{type_is_valid}
use Rattle.user_patterns_data.proofs.well_formed.types_are_valid.Given as goal

abbrev pub invariant-value_types : goal.invariant-value_types
invariant-value_types l = list_all (type_is_valid (pattern_model l.fn.pattern)) l.rest ≡ list_all (type_is_valid (pattern_model l.fn.pattern)) l.fn.value_types

abbrev pub decreases-value_types : goal.decreases-value_types
decreases-value_types l = length l.rest
