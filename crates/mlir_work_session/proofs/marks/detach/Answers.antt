use Rattle.std.proofs.Common.{refl, ap}
use Rattle.mlir_work_transforms.specs.rewriter.Commands as command
use Rattle.mlir_work_transforms.specs.rewriter.Machine as call
use Rattle.mlir_work_transforms.specs.rewriter.Held.{TransactionModel}
use Rattle.mlir_work_session.proofs.Obeying.{obeys_plain}
use Rattle.mlir_work_session.proofs.marks.detach.Goals as goal

pub returns-clause-obeys : goal.returns-clause-obeys
returns-clause-obeys g c session_options = obeys_plain session_options _ _ (command.Detach c.args.kind) (call.Detach c.args.kind) _ _ c.reply_to.ensures refl c.detach.ensures.does

pub returns-clause-kept : goal.returns-clause-kept
returns-clause-kept g c = c.detach.ensures.kept c.requires

pub returns-clause-mode : goal.returns-clause-mode
returns-clause-mode g c = ap (λ (h : TransactionModel). h.ctx.opaque) c.detach.ensures.transaction
