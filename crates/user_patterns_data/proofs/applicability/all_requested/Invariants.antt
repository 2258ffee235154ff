use Rattle.std.proofs.Common.{◌≡◌, length}
use Rattle.std.specs.List.{list_all}
use Rattle.user_patterns_data.specs.Fitting.{is_requested}
use Rattle.user_patterns_data.proofs.applicability.all_requested.Given as goal

abbrev pub invariant-type_constraints : goal.invariant-type_constraints
invariant-type_constraints l = list_all (is_requested l.fn.value_types) l.rest ≡ list_all (is_requested l.fn.value_types) l.fn.type_constraints

abbrev pub decreases-type_constraints : goal.decreases-type_constraints
decreases-type_constraints l = length l.rest
