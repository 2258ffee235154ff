use Rattle.std.proofs.Common.{◌≡◌, length, map}
use Rattle.std.specs.Prelude.{nat_le, sum}
use Rattle.ir_types.specs.Bits.{width_of}
use Rattle.user_patterns_registry.proofs.widths.are_few.Given as goal

abbrev pub invariant-value_types : goal.invariant-value_types
invariant-value_types l = nat_le (sum (map width_of l.rest)) l.left ≡ nat_le (sum (map width_of l.fn.value_types)) l.fn.most

abbrev pub decreases-value_types : goal.decreases-value_types
decreases-value_types l = length l.rest
