use Rattle.std.proofs.Common.{◌∙◌, sym, ap, subst, Option}
use Rattle.rewriter.specs.RewriterCalls.{AgreesOrStale}
use Rattle.mlir_work_analyses.specs.Listeners.{any_analysis}
use Rattle.mlir_work_c.specs.Calls.{IsHeld}
use Rattle.mlir_work_c.specs.declared.handle.Handle.{Handle}
use Rattle.mlir_work_c.specs.declared.session.Session.{Session}
use Rattle.mlir_work_c.proofs.handle.Handle.open_with.Goals as goal

pub returns-clause-kept : goal.returns-clause-kept
returns-clause-kept c =
    subst (λ (o : Option Session). IsHeld o) (sym (ap (λ (h : Handle). h.slot.value) c.replace-slot.ensures.after ∙ c.of.ensures))
    (subst (λ (s : Session). AgreesOrStale any_analysis s.bench) (sym c.from_box.ensures) c.requires.kept)
