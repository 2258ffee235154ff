use Rattle.std.specs.Prelude.{length}
use Rattle.user_patterns_claims.proofs.walk.+all_extra.Given as goal

abbrev pub decreases-all_extra : goal.decreases-all_extra
decreases-all_extra l = length l.extra.now
