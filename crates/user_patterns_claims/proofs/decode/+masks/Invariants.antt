use Rattle.std.specs.Prelude.{length}
use Rattle.user_patterns_claims.proofs.decode.+masks.Given as goal

abbrev pub decreases-masks : goal.decreases-masks
decreases-masks l = length l.types.now
