use Rattle.std.proofs.Common.{◌≡◌, ◌*◌, ◌^◌, ◌≤◌, ◌++◌, replicate}
use Rattle.user_patterns_check.proofs.check.bounds.Given as goal

abbrev pub invariant-types : goal.invariant-types
invariant-types l =
    (l.bounds.items ++ replicate l.left l.fn.most ≡ replicate l.fn.types l.fn.most)
    × (l.product * l.fn.most ^ l.left ≡ l.fn.most ^ l.fn.types)
    × (l.product ≤ 16777216)

abbrev pub decreases-types : goal.decreases-types
decreases-types l = l.left
