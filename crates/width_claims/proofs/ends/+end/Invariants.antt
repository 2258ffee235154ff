use Rattle.std.proofs.Common.{length}
use Rattle.width_claims.proofs.ends.+end.Given as goal

abbrev pub decreases-end : goal.decreases-end
decreases-end l = length l.steps.now
