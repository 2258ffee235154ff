use Rattle.std.proofs.Common.{◌≡◌, ◌-◌, ◌≤◌, None}
use Rattle.user_patterns_check.specs.Cases.{first_below}
use Rattle.user_patterns_check.proofs.Logs.{power_at}
use Rattle.user_patterns_check.proofs.evaluation.log.Given as goal

abbrev pub invariant-powers : goal.invariant-powers
invariant-powers l = (l.k ≤ l.width) × (first_below (power_at l.fn.bits.value) l.k ≡ None)

abbrev pub decreases-powers : goal.decreases-powers
decreases-powers l = l.width - l.k
