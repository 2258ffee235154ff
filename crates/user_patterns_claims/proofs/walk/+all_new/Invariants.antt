use Rattle.std.specs.Prelude.{length}
use Rattle.user_patterns_claims.proofs.walk.+all_new.Given as goal

abbrev pub decreases-all_new : goal.decreases-all_new
decreases-all_new l = length l.made.now
