use Rattle.std.proofs.Common.{ap, Err}
use Rattle.mlir_work_transforms.specs.rewriter.Held.{module_held}
use Rattle.mlir_work_session.proofs.operations.operation_of.Goals as goal

pub returns-in-Err-clause-unparsed : goal.returns-in-Err-clause-unparsed
returns-in-Err-clause-unparsed g c = c.reply_unparsed.ensures.op c.args.bench.now.transaction.ctx.opaque (module_held c.args.bench.now.transaction) c.args.text.now c.in-Err.ensures.reported (λ r o e. c.in-Err.ensures.refused r o (ap Err e))
