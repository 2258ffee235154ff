use Rattle.std.proofs.Common.{◌≡◌, ◌++◌, length, map}
use Rattle.user_patterns_data.specs.Fitting.{kind_with}
use Rattle.user_patterns_data.proofs.sides.kinds_with.Given as goal

abbrev pub invariant-value_types : goal.invariant-value_types
invariant-value_types l = l.found.items ++ map (kind_with l.fn.widths) l.rest ≡ map (kind_with l.fn.widths) l.fn.value_types

abbrev pub decreases-value_types : goal.decreases-value_types
decreases-value_types l = length l.rest
