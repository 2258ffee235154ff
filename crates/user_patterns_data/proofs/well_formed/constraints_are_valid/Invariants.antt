use Rattle.std.proofs.Common.{◌≡◌, length}
use Rattle.std.specs.List.{list_all}
use Rattle.user_patterns_data.specs.Shapes.{pattern_model}
use Rattle.user_patterns_data.specs.WellFormed.{constraint_is_valid}
use Rattle.user_patterns_data.proofs.well_formed.constraints_are_valid.Given as goal

abbrev pub invariant-type_constraints : goal.invariant-type_constraints
invariant-type_constraints l = list_all (constraint_is_valid (pattern_model l.fn.pattern)) l.rest ≡ list_all (constraint_is_valid (pattern_model l.fn.pattern)) l.fn.type_constraints

abbrev pub decreases-type_constraints : goal.decreases-type_constraints
decreases-type_constraints l = length l.rest
