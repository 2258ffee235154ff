use Rattle.std.proofs.Common.{[]}
use Rattle.rewriter.proofs.Rolled.{dropped_undone, given_settled, rollback_goes, rollback_led, rollback_notified, rollback_none}
use Rattle.rewriter.proofs.Notified.{notified_none}
use Rattle.rewriter.proofs.ContextLaws.{rollback_ctx}
use Rattle.rewriter.proofs.bench.Bench.rollback.Goals as goal

pub returns-clause-does : goal.returns-clause-does
returns-clause-does g c = rw (← c.self.view_is) (rollback_goes g.L.Analysis.meaning _ _ _ _ _ _ _ c.in-Some.ensures.some c.undo_to.ensures.undone c.close.ensures c.give_up.ensures c.undo_to.ensures.reported)

pub returns-clause-reported : goal.returns-clause-reported
returns-clause-reported g c = rw (← c.self.view_is) (rollback_notified g.L.Analysis.meaning _ _ _ _ _ _ _ c.in-Some.ensures.some c.undo_to.ensures.undone c.close.ensures c.give_up.ensures c.undo_to.ensures.reported)

pub returns-clause-led : goal.returns-clause-led
returns-clause-led g c = rw (← c.self.view_is) (rollback_led g.L.Analysis.meaning _ _ _ _ _ _ _ c.in-Some.ensures.some c.undo_to.ensures.undone c.close.ensures c.give_up.ensures c.undo_to.ensures.reported)

pub returns-in_default-clause-led : goal.returns-in_default-clause-led
returns-in_default-clause-led g c = ([], notified_none g.L.Analysis.meaning _)

pub returns-in_default-clause-does : goal.returns-in_default-clause-does
returns-in_default-clause-does g c = rw (← c.self.view_is) (rollback_none g.L.Analysis.meaning (record { transaction = c.self.inside.transaction; listeners = c.self.inside.panel }) c.in_default.ensures.none)

pub returns-clause-ctx : goal.returns-clause-ctx
returns-clause-ctx g c = rw (← c.self.view_is) (rollback_ctx _ _ _ _ _ c.undo_to.ensures.undone c.close.ensures c.give_up.ensures)

pub returns-clause-ok : goal.returns-clause-ok
returns-clause-ok g c = rw (← c.self.view_is) (dropped_undone _ _ _ _ _ c.in-Some.ensures.some c.undo_to.ensures.undone c.close.ensures c.give_up.ensures)

pub invariant_of-self : goal.invariant_of-self
invariant_of-self g c = given_settled _ _ c.give_up.ensures
