use Rattle.std.proofs.Common.{[], IsTrue, subst}
use Rattle.rewriter.proofs.OpenMarks.{unmarked}
use Rattle.rewriter.proofs.Rolled.{commit_goes, commit_led, commit_untold, closed_given, dropped_kept, given_settled}
use Rattle.rewriter.proofs.Notified.{notified_none}
use Rattle.rewriter.proofs.ContextLaws.{commit_ctx}
use Rattle.rewriter.proofs.bench.Bench.commit.Goals as goal

pub returns-clause-does : goal.returns-clause-does
returns-clause-does g c = rw (← c.self.view_is) (commit_goes g.L.Analysis.meaning _ _ _ _ c.close.ensures (closed_given _ _ _ c.self.invariant c.close.ensures c.settle.ensures))

pub returns-clause-led : goal.returns-clause-led
returns-clause-led g c = rw (← c.self.view_is) (commit_led g.L.Analysis.meaning _ _ _ _ c.close.ensures (closed_given _ _ _ c.self.invariant c.close.ensures c.settle.ensures))

pub returns-then-not-is_marked-clause-led : goal.returns-then-not-is_marked-clause-led
returns-then-not-is_marked-clause-led g c = ([], notified_none g.L.Analysis.meaning _)

pub returns-clause-ctx : goal.returns-clause-ctx
returns-clause-ctx g c = rw (← c.self.view_is) (commit_ctx _ _ _ c.close.ensures (closed_given _ _ _ c.self.invariant c.close.ensures c.settle.ensures))

pub returns-clause-ok : goal.returns-clause-ok
returns-clause-ok g c = rw (← c.self.view_is) (dropped_kept _ _ _ c.is_well_formed.ensures c.close.ensures (closed_given _ _ _ c.self.invariant c.close.ensures c.settle.ensures))

pub returns-clause-untold : goal.returns-clause-untold
returns-clause-untold g c = rw (← c.self.view_is) (commit_untold g.L.Analysis.meaning _ _ _ _ c.close.ensures (closed_given _ _ _ c.self.invariant c.close.ensures c.settle.ensures))

pub returns-then-not-is_marked-clause-untold : goal.returns-then-not-is_marked-clause-untold
returns-then-not-is_marked-clause-untold g c = notified_none g.L.Analysis.meaning _

pub invariant_of-self : goal.invariant_of-self
invariant_of-self g c = given_settled _ _ (closed_given _ _ _ c.self.invariant c.close.ensures c.settle.ensures)

pub returns-then-not-is_marked-clause-none : goal.returns-then-not-is_marked-clause-none
returns-then-not-is_marked-clause-none g c = rw (← c.self.view_is) (unmarked _ (λ some. subst IsTrue c.if-not-is_marked.true (c.is_marked.ensures.1 some)))
