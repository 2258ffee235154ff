use Rattle.std.proofs.Common.{length}
use Rattle.ir_types.specs.Interning.{with_attr}
use Rattle.ir_types.specs.Reasons.{attr_reason}
use Rattle.ir_text_types.specs.Typed.{attr_step}
use Rattle.ir_text_types.proofs.Stepping.{step_fails}
use Rattle.ir_text_types.proofs.steps.attr.Goals as goal

pub returns-in-Err-clause-reads : goal.returns-in-Err-clause-reads
unfolding attr_step
returns-in-Err-clause-reads c = rw c.refused_by_context.ensures (step_fails _ (attr_reason c.args.node c.args.ctx.now) c.in-Err.refusal (length c.args.rest.now) (with_attr c.args.node c.args.ctx.now) c.in-Err.ensures.refused)
