use Rattle.std.specs.Prelude.{length}
use Rattle.user_patterns_claims.proofs.variables.+variables.Given as goal

abbrev pub decreases-variables : goal.decreases-variables
decreases-variables l = length l.tys.now
