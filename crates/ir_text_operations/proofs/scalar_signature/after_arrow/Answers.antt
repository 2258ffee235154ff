use Rattle.std.proofs.Common.{sym}
use Rattle.std.proofs.lemmas.Option.{IfSome_then}
use Rattle.ir_text_operations.specs.OpReading.{bound_types}
use Rattle.ir_text_operations.proofs.ScalarTypes.{given, are_inputs}
use Rattle.ir_text_operations.proofs.scalar_signature.after_arrow.Goals as goal

pub returns : goal.returns
returns c =
    IfSome_then c.after-2.result (given (λ r. r.now) c.after-2.result _ c.after-2.ensures)
    (λ r arrow. are_inputs c.args.ctx.now c.args.bytes.now c.in-Some.rest.now c.in-Some-after_inputs.rest.now r.now (bound_types c.args.operands.now) (sym c.in-Some.ensures) c.in-Some-after_inputs.ensures arrow)
