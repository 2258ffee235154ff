use Rattle.user_patterns_claims.proofs.Decoded.{witnesses_witness}
use Rattle.user_patterns_claims.proofs.laws.witnesses_witness.Goals as goal

pub returns : goal.returns
returns c = witnesses_witness
