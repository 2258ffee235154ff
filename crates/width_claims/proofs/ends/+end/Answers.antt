use Rattle.std.proofs.Common.{◌^◌, arith}
use Rattle.width_claims.specs.declared.step.Step.TheVariants as step
use Rattle.width_claims.proofs.Small.{state_count_parts, tail_shorter, uncons}
use Rattle.width_claims.proofs.ends.+end.Goals as goal

pub digit-kept-requires : goal.digit-kept-requires
digit-kept-requires t c = (state_count_parts c.args.steps.now _ _ (2 ^ 128) (uncons c.args.steps.now (step.Variable 0) c.in-len1-up.len_at_least) c.requires).0

pub without_digit-requires : goal.without_digit-requires
without_digit-requires t c = (state_count_parts c.args.steps.now _ _ (2 ^ 128) (uncons c.args.steps.now (step.Variable 0) c.in-len1-up.len_at_least) c.requires).0

pub end-requires : goal.end-requires
end-requires t c =
    let falls = tail_shorter c.args.steps.now c.in-len1-up.len_at_least in
    (omega (arith, c.decreases, falls), (state_count_parts c.args.steps.now _ _ (2 ^ 128) (uncons c.args.steps.now (step.Variable 0) c.in-len1-up.len_at_least) c.requires).1)
