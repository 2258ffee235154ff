use Rattle.std.proofs.Common.{false}
use Rattle.rewriter.proofs.Rolled.{step_does, mark_led, mark_untold, marked_settled}
use Rattle.rewriter.proofs.ContextLaws.{step_ctx}
use Rattle.rewriter.proofs.bench.Bench.step.Goals as goal

pub returns-clause-does : goal.returns-clause-does
returns-clause-does g c = rw (← c.self.view_is) (step_does g.L.Analysis.meaning _ _ _ c.mark.result c.mark.ensures.ok c.mark.ensures.marked c.mark.ensures.err c.mark.ensures.refused)

pub returns-clause-led : goal.returns-clause-led
returns-clause-led g c = rw (← c.self.view_is) (mark_led g.L.Analysis.meaning false _ _ _ c.mark.result c.mark.ensures.ok c.mark.ensures.err)

pub returns-clause-ctx : goal.returns-clause-ctx
returns-clause-ctx g c = rw (← c.self.view_is) (step_ctx _ _ c.mark.result c.mark.ensures.ok c.mark.ensures.err)

pub returns-clause-untold : goal.returns-clause-untold
returns-clause-untold g c = rw (← c.self.view_is) (mark_untold g.L.Analysis.meaning false _ _ _ c.mark.result c.mark.ensures.ok c.mark.ensures.err)

pub invariant_of-self : goal.invariant_of-self
invariant_of-self g c = marked_settled false _ _ c.mark.result c.mark.ensures.ok c.mark.ensures.err c.self.invariant

pub returns-clause-ok : goal.returns-clause-ok
returns-clause-ok g c = rw (← c.self.view_is) c.mark.ensures.ok
