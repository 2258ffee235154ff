use Rattle.std.specs.Prelude.{length}
use Rattle.user_patterns_claims.proofs.decode.+push_outcomes.Given as goal

abbrev pub decreases-push_outcomes : goal.decreases-push_outcomes
decreases-push_outcomes l = length l.value_kinds.now
