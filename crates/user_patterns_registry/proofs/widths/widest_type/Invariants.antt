use Rattle.std.proofs.Common.{◌≡◌, length, map, max}
use Rattle.user_patterns_registry.specs.Shown.{greatest, type_width}
use Rattle.user_patterns_registry.proofs.widths.widest_type.Given as goal

abbrev pub invariant-value_types : goal.invariant-value_types
invariant-value_types l = max l.most (greatest (map type_width l.rest)) ≡ greatest (map type_width l.fn.value_types)

abbrev pub decreases-value_types : goal.decreases-value_types
decreases-value_types l = length l.rest
