use Rattle.std.proofs.Common.{refl}
use Rattle.mlir_work_transforms.specs.rewriter.Commands as command
use Rattle.mlir_work_transforms.specs.rewriter.Machine as call
use Rattle.mlir_work_session.proofs.Obeying.{obeys_plain}
use Rattle.mlir_work_session.proofs.marks.rollback.Goals as goal

pub returns-clause-obeys : goal.returns-clause-obeys
returns-clause-obeys g c session_options = obeys_plain session_options _ _ command.Rollback call.Rollback _ _ c.reply_to.ensures refl c.rollback.ensures.does

pub returns-clause-kept : goal.returns-clause-kept
returns-clause-kept g c = c.led_benches_are_kept.ensures.kept _ _ c.rollback.ensures.led c.requires

pub returns-clause-mode : goal.returns-clause-mode
returns-clause-mode g c = c.rollback.ensures.led.1.grows.opaque
