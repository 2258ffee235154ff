use Rattle.std.proofs.Common.{length}
use Rattle.width_claims.proofs.digits.+letters.Given as goal

abbrev pub decreases-letters : goal.decreases-letters
decreases-letters l = length l.steps.now
