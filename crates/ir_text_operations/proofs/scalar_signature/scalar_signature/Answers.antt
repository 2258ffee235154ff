use Rattle.std.proofs.Common.{[], ◌∷◌}
use Rattle.ir_text_operations.specs.OpReading.{bound_types}
use Rattle.ir_text_operations.proofs.ScalarTypes.{is_signature}
use Rattle.ir_text_operations.proofs.scalar_signature.scalar_signature.Goals as goal

pub returns-in-Some-after_no_outputs : goal.returns-in-Some-after_no_outputs
returns-in-Some-after_no_outputs c =
    rw c.new.ensures.items (is_signature c.args.ctx.now c.args.bytes.now c.in-Some.rest.now (bound_types c.args.operands.now) [] c.in-Some-after_no_outputs.rest.now c.in-Some.ensures (c.in-Some-after_no_outputs.ensures c.args.ctx.now))

pub returns : goal.returns
returns c =
    rw c.in_ok-results.ensures (is_signature c.args.ctx.now c.args.bytes.now c.in-Some.rest.now (bound_types c.args.operands.now) (c.in-Some-output.found.0 ∷ []) c.in-Some-output.found.1.now c.in-Some.ensures c.in-Some-output.ensures)
