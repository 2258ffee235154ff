use Rattle.std.proofs.Common.{◌≡◌, length}
use Rattle.user_patterns_apply.specs.Built.{operands_at, with_more}
use Rattle.user_patterns_apply.proofs.building.operands_at.Given as goal

abbrev pub invariant-places : goal.invariant-places
invariant-places l = with_more l.found.items (operands_at l.rest l.fn.operands) ≡ operands_at l.fn.places l.fn.operands

abbrev pub decreases-places : goal.decreases-places
decreases-places l = length l.rest
