use Rattle.std.proofs.Common.{refl, sym, None, ◌∙◌}
use Rattle.ir_event.specs.trees.Meaning.{meaning}
use Rattle.mlir_work_transforms.specs.rewriter.Commands as command
use Rattle.mlir_work_transforms.specs.rewriter.Edits as edit
use Rattle.mlir_work_transforms.specs.rewriter.Machine.{Do}
use Rattle.mlir_work_script_base.specs.InsertionPoints.{insertion_point_of}
use Rattle.mlir_work_session.specs.Machine.{response_of}
use Rattle.mlir_work_session.proofs.Obeying.{obeys_after, obeys_unparsed_op, obeys_unplaced}
use Rattle.mlir_work_session.proofs.Reading.{point_after}
use Rattle.mlir_work_session.proofs.texts.insert.Goals as goal

pub returns-in-Err-clause-obeys : goal.returns-in-Err-clause-obeys
returns-in-Err-clause-obeys g c = obeys_unparsed_op c.args.session_options.now (insertion_point_of c.args.point.now) c.args.text.now _ _ (response_of c.in-Err.reply) c.operation_of.ensures.grown.same (rw c.requires.mode at c.in-Err.ensures.unparsed)

pub returns-in-Err-clause-kept : goal.returns-in-Err-clause-kept
returns-in-Err-clause-kept g c = c.operation_of.ensures.grown.kept c.requires.kept

pub returns-in-Err-place_for-clause-obeys : goal.returns-in-Err-place_for-clause-obeys
returns-in-Err-place_for-clause-obeys g c =
    let o = meaning c.operation_of.new.bench.transaction.ctx c.in-Ok.tree in
    obeys_unplaced c.args.session_options.now (insertion_point_of c.args.point.now) c.args.text.now _ _ o c.in-Err-place_for.refusal c.operation_of.ensures.grown.same (rw c.requires.mode at c.in-Ok.ensures.read)
    (point_after g.L.Analysis.meaning c.args.bench.now c.operation_of.new.bench _ None (insertion_point_of c.args.point.now) _ c.operation_of.ensures.grown c.world.ensures.store (sym c.in-Err-place_for.ensures))

pub returns-in-Err-place_for-clause-kept : goal.returns-in-Err-place_for-clause-kept
returns-in-Err-place_for-clause-kept g c = c.operation_of.ensures.grown.kept c.requires.kept

pub returns-clause-obeys : goal.returns-clause-obeys
returns-clause-obeys g c =
    let o = meaning c.operation_of.new.bench.transaction.ctx c.in-Ok.tree in
    obeys_after c.args.session_options.now _ _ _ (command.Insert (insertion_point_of c.args.point.now) c.args.text.now) (Do (edit.Insert c.in-Ok-place_for.place o)) _ _ c.operation_of.ensures.grown.same c.reply_as.ensures
    (o, rw c.requires.mode at c.in-Ok.ensures.read, (c.in-Ok-place_for.place, point_after g.L.Analysis.meaning c.args.bench.now c.operation_of.new.bench _ None (insertion_point_of c.args.point.now) _ c.operation_of.ensures.grown c.world.ensures.store (sym c.in-Ok-place_for.ensures), refl)) c.insert.ensures.does

pub returns-clause-kept : goal.returns-clause-kept
returns-clause-kept g c = c.led_benches_are_kept.ensures.kept _ _ c.insert.ensures.led (c.operation_of.ensures.grown.kept c.requires.kept)

pub returns-in-Err-clause-mode : goal.returns-in-Err-clause-mode
returns-in-Err-clause-mode g c = c.operation_of.ensures.grown.grows.opaque

pub returns-in-Err-place_for-clause-mode : goal.returns-in-Err-place_for-clause-mode
returns-in-Err-place_for-clause-mode g c = c.operation_of.ensures.grown.grows.opaque

pub returns-clause-mode : goal.returns-clause-mode
returns-clause-mode g c = c.insert.ensures.led.1.grows.opaque ∙ c.operation_of.ensures.grown.grows.opaque
