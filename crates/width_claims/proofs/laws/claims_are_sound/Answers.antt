use Rattle.width_claims.proofs.Emitting.{emits}
use Rattle.width_claims.proofs.Claiming.{claims}
use Rattle.width_claims.proofs.laws.claims_are_sound.Goals as goal

pub returns-clause-emits : goal.returns-clause-emits
returns-clause-emits c = emits

pub returns-clause-claims : goal.returns-clause-claims
returns-clause-claims c = claims
