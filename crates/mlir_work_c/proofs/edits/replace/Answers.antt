use Rattle.std.proofs.Common.{refl, [], subst, sym}
use Rattle.rewriter.specs.RewriterCalls.{AgreesOrStale}
use Rattle.mlir_work_analyses.specs.Listeners.{any_analysis}
use Rattle.rewriter.specs.Commands.{Replace}
use Rattle.mlir_work_c.specs.Stepped.{setting}
use Rattle.mlir_work_c.proofs.Edited.{asked_within, edited}
use Rattle.mlir_work_c.proofs.edits.replace.Goals as goal

pub returns-clause-answered : goal.returns-clause-answered
returns-clause-answered c =
    let obeys = c.replace-reply.ensures.obeys (setting c.args.session.now []) in
    edited (Replace c.args.old c.args.new) c.args.session.now _ _ _ _ (λ registry. refl) obeys (asked_within _ _ obeys.requested _ _ obeys.shows _ obeys.asks obeys.follows) refl refl refl c.replace-reply.ensures.mode c.answer_edit.ensures

pub returns-clause-kept : goal.returns-clause-kept
returns-clause-kept c = subst (λ (b : _). AgreesOrStale any_analysis b) (sym c.answer_edit.ensures.bench) c.replace-reply.ensures.kept
