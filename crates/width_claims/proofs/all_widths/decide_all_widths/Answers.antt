use Rattle.width_claims.proofs.Small.{all_widths}
use Rattle.width_claims.proofs.all_widths.decide_all_widths.Goals as goal

pub returns : goal.returns
returns c = all_widths c.args.steps.now c.args.claim _ _ c.start.ensures.is c.in_ok-verdict.ensures
