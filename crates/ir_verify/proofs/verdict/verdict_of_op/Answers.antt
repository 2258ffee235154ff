use Rattle.std.proofs.Common.{◌∙◌, sym}
use Rattle.ir_verify_base.specs.events.Modules.{module_in}
use Rattle.ir_verify.specs.Sets.{finding_of}
use Rattle.ir_verify.proofs.Presence.{same_there, isnt_there, is_there}
use Rattle.ir_verify.proofs.Verdicts.{verdict_read}
use Rattle.ir_verify.proofs.verdict.verdict_of_op.Goals as goal

pub returns-in-Err : goal.returns-in-Err
returns-in-Err c = same_there c.args.view.now.world.now c.args.op c.in-Err.ensures.refused

pub returns-in_default : goal.returns-in_default
returns-in_default c = isnt_there finding_of c.args.view.now.world.now c.args.op (sym c.in_default.is ∙ c.in-Ok.ensures.fact)

pub returns-in-Ok-verdict_of : goal.returns-in-Ok-verdict_of
returns-in-Ok-verdict_of c =
    verdict_read c.args.op (module_in c.args.view.now.world.now).tree c.in-Some.finding c.in-Ok-verdict_of.verdict (sym c.in-Some.is ∙ c.in-Ok.ensures.fact) c.in-Ok-verdict_of.ensures

pub returns-in-Err-verdict_of : goal.returns-in-Err-verdict_of
returns-in-Err-verdict_of c = is_there finding_of c.args.view.now.world.now c.args.op c.in-Some.finding (sym c.in-Some.is ∙ c.in-Ok.ensures.fact)
