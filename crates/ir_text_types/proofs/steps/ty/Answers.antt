use Rattle.std.proofs.Common.{length}
use Rattle.ir_types.specs.Interning.{with_type}
use Rattle.ir_types.specs.Reasons.{type_reason}
use Rattle.ir_text_types.specs.Typed.{type_step}
use Rattle.ir_text_types.proofs.Stepping.{step_fails}
use Rattle.ir_text_types.proofs.steps.ty.Goals as goal

pub returns-in-Err-clause-reads : goal.returns-in-Err-clause-reads
unfolding type_step
returns-in-Err-clause-reads c = rw c.refused_by_context.ensures (step_fails _ (type_reason c.args.node c.args.ctx.now) c.in-Err.refusal (length c.args.rest.now) (with_type c.args.node c.args.ctx.now) c.in-Err.ensures.refused)
