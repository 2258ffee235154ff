use Rattle.std.proofs.Common.{◌*◌, ◌+◌, length}
use Rattle.width_claims.proofs.walk.+steps.Given as goal

abbrev pub decreases-walk_step : goal.decreases-walk_step
decreases-walk_step l = 2 * length l.tail.now + 1

abbrev pub decreases-walk : goal.decreases-walk
decreases-walk l = 2 * length l.steps.now
