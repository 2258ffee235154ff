use Rattle.user_patterns_claims.proofs.Deciding.{empty_claims_decide}
use Rattle.user_patterns_claims.proofs.laws.empty_claims_decide.Goals as goal

pub returns : goal.returns
returns c = empty_claims_decide
