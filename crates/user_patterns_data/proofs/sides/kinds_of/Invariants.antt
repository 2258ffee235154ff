use Rattle.std.proofs.Common.{◌≡◌, ◌++◌, length, map}
use Rattle.user_patterns_data.specs.Fitting.{kind_at}
use Rattle.user_patterns_data.proofs.sides.kinds_of.Given as goal

abbrev pub invariant-values : goal.invariant-values
invariant-values l = l.found.items ++ map (kind_at l.fn.value_types) l.rest ≡ map (kind_at l.fn.value_types) l.fn.values

abbrev pub decreases-values : goal.decreases-values
decreases-values l = length l.rest
