use Rattle.std.proofs.Common.{length}
use Rattle.width_claims.proofs.digits.+state_count.Given as goal

abbrev pub decreases-state_count : goal.decreases-state_count
decreases-state_count l = length l.steps.now
