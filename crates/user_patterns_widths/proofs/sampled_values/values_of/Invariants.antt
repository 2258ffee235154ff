use Rattle.std.proofs.Common.{◌≡◌, ◌+◌, ◌++◌, length}
use Rattle.user_patterns_widths.specs.SampledValues.{values_from, values_of}
use Rattle.user_patterns_widths.proofs.sampled_values.values_of.Given as goal

abbrev pub invariant-value_types : goal.invariant-value_types
invariant-value_types l =
    (l.values.items ++ values_from l.fn.near l.fn.case l.place l.rest ≡ values_of l.fn.near l.fn.case l.fn.value_types) × (l.place + length l.rest ≡ length l.fn.value_types)

abbrev pub decreases-value_types : goal.decreases-value_types
decreases-value_types l = length l.rest
