use Rattle.std.proofs.Common.{refl, sym, Some}
use Rattle.mlir_work_transforms.specs.rewriter.Commands as command
use Rattle.mlir_work_transforms.specs.rewriter.Edits as edit
use Rattle.mlir_work_transforms.specs.rewriter.Machine.{Do}
use Rattle.mlir_work_script_base.specs.InsertionPoints.{insertion_point_of}
use Rattle.mlir_work_session.proofs.Obeying.{obeys_plain, obeys_misplaced}
use Rattle.mlir_work_session.proofs.Placed.{point_next_to}
use Rattle.mlir_work_session.proofs.edits.move_op.Goals as goal

pub returns-in-Err-clause-obeys : goal.returns-in-Err-clause-obeys
returns-in-Err-clause-obeys g c session_options = obeys_misplaced session_options c.args.op (insertion_point_of c.args.point.now) _ c.in-Err.refusal (point_next_to c.args.bench.now.transaction _ (Some c.args.op) (insertion_point_of c.args.point.now) _ c.world.ensures.store (sym c.in-Err.ensures))

pub returns-clause-obeys : goal.returns-clause-obeys
returns-clause-obeys g c session_options =
    obeys_plain session_options _ _ (command.Move c.args.op (insertion_point_of c.args.point.now)) (Do (edit.Move c.args.op c.in-Ok.place)) _ _ c.reply_to.ensures
    (c.in-Ok.place, point_next_to c.args.bench.now.transaction _ (Some c.args.op) (insertion_point_of c.args.point.now) _ c.world.ensures.store (sym c.in-Ok.ensures), refl) c.move_op.ensures.does

pub returns-clause-kept : goal.returns-clause-kept
returns-clause-kept g c = c.led_benches_are_kept.ensures.kept _ _ c.move_op.ensures.led c.requires

pub returns-clause-mode : goal.returns-clause-mode
returns-clause-mode g c = c.move_op.ensures.led.1.grows.opaque
