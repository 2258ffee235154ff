use Rattle.std.proofs.Common.{subst, sym}
use Rattle.rewriter.specs.RewriterCalls.{AgreesOrStale}
use Rattle.mlir_work_analyses.specs.Listeners.{any_analysis}
use Rattle.mlir_work_c.specs.declared.session.Session.{Session}
use Rattle.mlir_work_c.proofs.calls.open_box.Goals as goal

pub returns-clause-kept : goal.returns-clause-kept
returns-clause-kept c = subst (λ (s : Session). AgreesOrStale any_analysis s.bench) (sym c.in-Ok-new.ensures.ok) c.in-Ok.ensures.kept
