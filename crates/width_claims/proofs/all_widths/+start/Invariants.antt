use Rattle.std.proofs.Common.{length}
use Rattle.width_claims.proofs.all_widths.+start.Given as goal

abbrev pub decreases-start : goal.decreases-start
decreases-start l = length l.steps.now
