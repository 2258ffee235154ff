use Rattle.std.proofs.Common.{ap}
use Rattle.mlir_work_transforms.specs.rewriter.RewriterCalls.{Benched}
use Rattle.mlir_work_session.proofs.Attaching.{tried_added, tried_back}
use Rattle.mlir_work_session.proofs.attach.attach.Goals as goal

pub returns-in-Err-clause-candidates : goal.returns-in-Err-clause-candidates
returns-in-Err-clause-candidates g c = tried_back g.L.Analysis.meaning c.args.listener _ _ _ _ c.in-Err.ensures.back (ap (λ (b : Benched _). b.listeners) c.in-Err.ensures.err)

pub returns-clause-candidates : goal.returns-clause-candidates
returns-clause-candidates g c = tried_added g.L.Analysis.meaning _ _ _ _ _ c.in-Ok.ensures.ok
