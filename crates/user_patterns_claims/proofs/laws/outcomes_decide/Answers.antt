use Rattle.user_patterns_claims.proofs.Deciding.{outcomes_decide}
use Rattle.user_patterns_claims.proofs.laws.outcomes_decide.Goals as goal

pub returns : goal.returns
returns c = outcomes_decide
