use Rattle.user_patterns_claims.proofs.Decoded.{refutations_refute}
use Rattle.user_patterns_claims.proofs.laws.refutations_refute.Goals as goal

pub returns : goal.returns
returns c = refutations_refute
