use Rattle.std.proofs.Common.{◌≡◌, length}
use Rattle.std.specs.List.{list_all}
use Rattle.user_patterns_data.specs.Shapes.{pattern_model}
use Rattle.user_patterns_data.specs.WellFormed.{is_type}
use Rattle.user_patterns_data.proofs.well_formed.are_types.Given as goal

abbrev pub invariant-types : goal.invariant-types
invariant-types l = list_all (is_type (pattern_model l.fn.pattern)) l.rest ≡ list_all (is_type (pattern_model l.fn.pattern)) l.fn.types

abbrev pub decreases-types : goal.decreases-types
decreases-types l = length l.rest
