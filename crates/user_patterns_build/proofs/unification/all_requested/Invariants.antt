use Rattle.std.proofs.Common.{◌≡◌, ◌++◌, length, map}
use Rattle.user_patterns_build.specs.Unified.{requested_in}
use Rattle.user_patterns_build.proofs.unification.all_requested.Given as goal

abbrev pub invariant-type_constraints : goal.invariant-type_constraints
invariant-type_constraints l = l.found.items ++ map (requested_in l.fn.value_types) l.rest ≡ map (requested_in l.fn.value_types) l.fn.type_constraints

abbrev pub decreases-type_constraints : goal.decreases-type_constraints
decreases-type_constraints l = length l.rest
