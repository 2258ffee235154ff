use Rattle.std.specs.Prelude.{length}
use Rattle.user_patterns_claims.proofs.walk.+all_old.Given as goal

abbrev pub decreases-all_old : goal.decreases-all_old
decreases-all_old l = length l.old.now
