use Rattle.width_claims.specs.Emission.{claim_of}
use Rattle.width_claims.proofs.Claiming.{decided_equal}
use Rattle.width_claims.proofs.claim.decide_equal.Goals as goal

pub returns : goal.returns
returns c =
    decided_equal (claim_of c.args.first_mask c.args.types.now c.args.narrower.now c.args.exprs.now c.args.conditions.now c.args.left c.args.right) _ _ _ _ c.in_ok-verdict.verdict
    c.in_ok-verdict.ensures c.as_slice.ensures.value c.in-Some.is c.in_ok-place.ensures
