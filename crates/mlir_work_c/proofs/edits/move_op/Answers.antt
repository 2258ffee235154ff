use Rattle.std.proofs.Common.{refl, [], subst, sym}
use Rattle.rewriter.specs.RewriterCalls.{AgreesOrStale}
use Rattle.mlir_work_analyses.specs.Listeners.{any_analysis}
use Rattle.rewriter.specs.Commands.{Move}
use Rattle.mlir_work_script_base.specs.InsertionPoints.{insertion_point_of}
use Rattle.mlir_work_c.specs.Stepped.{setting}
use Rattle.mlir_work_c.proofs.Edited.{edited, moved_within}
use Rattle.mlir_work_c.proofs.edits.move_op.Goals as goal

pub returns-clause-answered : goal.returns-clause-answered
returns-clause-answered c =
    let options = setting c.args.session.now [] in
    let point = insertion_point_of c.args.point in
    let obeys = c.move_op-reply.ensures.obeys options in
    edited (Move c.args.op point) c.args.session.now _ _ _ _ (λ registry. refl) obeys (moved_within options _ _ c.args.op point obeys.requested _ obeys.shows _ obeys.asks obeys.follows) refl refl refl c.move_op-reply.ensures.mode c.answer_edit.ensures

pub returns-clause-kept : goal.returns-clause-kept
returns-clause-kept c = subst (λ (b : _). AgreesOrStale any_analysis b) (sym c.answer_edit.ensures.bench) c.move_op-reply.ensures.kept
