use Rattle.std.specs.Prelude.{length}
use Rattle.user_patterns_claims.proofs.variables.+set_count.Given as goal

abbrev pub decreases-set_count : goal.decreases-set_count
decreases-set_count l = length l.tys.now
