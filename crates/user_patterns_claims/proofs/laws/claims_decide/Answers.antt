use Rattle.user_patterns_claims.proofs.Deciding.{claims_decide}
use Rattle.user_patterns_claims.proofs.laws.claims_decide.Goals as goal

pub returns : goal.returns
returns c = claims_decide
