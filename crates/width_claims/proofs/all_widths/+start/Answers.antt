use Rattle.width_claims.specs.declared.step.Step.TheVariants as step
use Rattle.width_claims.proofs.Small.{start_small, uncons}
use Rattle.width_claims.proofs.all_widths.+start.Goals as goal

pub returns-clause-small : goal.returns-clause-small
returns-clause-small t c = start_small c.args.steps.now _ _ _ _ _ (uncons c.args.steps.now (step.Variable 0) c.in-len1-up.len_at_least) c.first_digit.ensures c.radix.ensures c.start-rest.ensures.small
