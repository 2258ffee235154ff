use Rattle.width_claims.proofs.Masking.{are_masks, masks_narrower, masks_power}
use Rattle.width_claims.proofs.laws.masks_meet_suppositions.Goals as goal

pub returns-clause-masks : goal.returns-clause-masks
returns-clause-masks c = are_masks

pub returns-clause-narrower : goal.returns-clause-narrower
returns-clause-narrower c = masks_narrower

pub returns-clause-power : goal.returns-clause-power
returns-clause-power c = masks_power
