use Rattle.std.proofs.Common.{◌≡◌, ◌++◌, length, map}
use Rattle.user_patterns_sema_base.specs.Types.{in_place}
use Rattle.user_patterns_sema_base.proofs.types.all_in_place.Given as goal

abbrev pub invariant-value_types : goal.invariant-value_types
invariant-value_types l = l.found.items ++ map (in_place l.fn.variable l.fn.new) l.rest ≡ map (in_place l.fn.variable l.fn.new) l.fn.value_types

abbrev pub decreases-value_types : goal.decreases-value_types
decreases-value_types l = length l.rest
