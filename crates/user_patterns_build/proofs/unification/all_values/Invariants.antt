use Rattle.std.proofs.Common.{◌≡◌, ◌++◌, length, map}
use Rattle.user_patterns_build.specs.Unified.{number_in}
use Rattle.user_patterns_build.proofs.unification.all_values.Given as goal

abbrev pub invariant-values : goal.invariant-values
invariant-values l = l.found.items ++ map (number_in l.fn.value_types) l.rest ≡ map (number_in l.fn.value_types) l.fn.values

abbrev pub decreases-values : goal.decreases-values
decreases-values l = length l.rest
