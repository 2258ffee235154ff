use Rattle.std.proofs.Common.{sym}
use Rattle.std.proofs.lemmas.Option.{IfSome_then}
use Rattle.ir_text_operations.proofs.ScalarTypes.{is_output}
use Rattle.ir_text_operations.proofs.scalar_signature.output.Goals as goal

pub returns-in-None : goal.returns-in-None
returns-in-None c =
    IfSome_then c.known.result c.known.ensures (λ x is_type. is_output c.args.ctx.now c.args.bytes.now x.1.now x.0 (sym c.in-None.ensures) is_type)
