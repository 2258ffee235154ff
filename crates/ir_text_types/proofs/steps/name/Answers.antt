use Rattle.std.proofs.Common.{length}
use Rattle.ir_types.specs.Interning.{with_name}
use Rattle.ir_types.specs.Reasons.{name_reason}
use Rattle.ir_text_types.specs.Typed.{name_step}
use Rattle.ir_text_types.proofs.Stepping.{step_fails}
use Rattle.ir_text_types.proofs.steps.name.Goals as goal

pub returns-in-Err-clause-reads : goal.returns-in-Err-clause-reads
unfolding name_step
returns-in-Err-clause-reads c = rw c.refused_by_context.ensures (step_fails _ (name_reason c.args.bytes.now c.args.ctx.now) c.in-Err.refusal (length c.args.rest.now) (with_name c.args.bytes.now c.args.ctx.now) c.in-Err.ensures.refused)
