use Rattle.std.proofs.Common.{◌≡◌, ◌+◌, ◌++◌, ◌^◌, ◌≤◌, length, map, sum}
use Rattle.ir_types.specs.Bits.{width_of}
use Rattle.user_patterns_check.proofs.claims.counts.Given as goal

abbrev pub invariant-value_types : goal.invariant-value_types
invariant-value_types l =
    (l.counts.items ++ map (λ k. 2 ^ width_of k) l.rest ≡ map (λ k. 2 ^ width_of k) l.fn.value_types)
    × (sum (map width_of l.fn.value_types) + l.left ≡ 24 + sum (map width_of l.rest))
    × (l.left ≤ 24)

abbrev pub decreases-value_types : goal.decreases-value_types
decreases-value_types l = length l.rest
