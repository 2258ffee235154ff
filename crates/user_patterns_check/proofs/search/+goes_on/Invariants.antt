use Rattle.std.proofs.Common.{length, ◌-◌, ◌≡◌, ◌++◌, ◌≤◌, None}
use Rattle.user_patterns_check.specs.Cases.{first_below}
use Rattle.user_patterns_check.proofs.Found.{at_value}
use Rattle.user_patterns_check.proofs.search.+goes_on.Given as goal

abbrev pub decreases-goes_on : goal.decreases-goes_on
decreases-goes_on g l = length l.bounds.now

abbrev pub invariant-values : goal.invariant-values
invariant-values g l = (l.values.items ≡ l.fn.values.items) × (first_below (at_value (λ vs. g.C.Claim.holds l.fn.claim (l.fn.values.items ++ vs)) l.tail) l.value ≡ None) × (l.value ≤ l.end)

abbrev pub decreases-values : goal.decreases-values
decreases-values g l = l.end - l.value
