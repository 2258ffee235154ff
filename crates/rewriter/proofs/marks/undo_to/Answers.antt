use Rattle.std.proofs.Common.{arith}
use Rattle.rewriter.proofs.Undo.{undoing_none, undoing_more, undoing_free, undone_to, undone_notified}
use Rattle.rewriter.proofs.marks.undo_to.Goals as goal

pub loop-transaction-init : goal.loop-transaction-init
loop-transaction-init g c = undoing_none g.L.Analysis.meaning _ _ _ c.requires.within

pub undo-event-requires-clause-free : goal.undo-event-requires-clause-free
undo-event-requires-clause-free g c = undoing_free g.L.Analysis.meaning _ _ _ _ _ (omega arith) c.requires.above c.loop-transaction.invariant

pub loop-transaction-preserved : goal.loop-transaction-preserved
loop-transaction-preserved g c = undoing_more g.L.Analysis.meaning _ _ _ _ _ _ c.world.result.now _ _ (omega arith) c.undo-event.ensures c.world.ensures.ctx c.world.ensures.store c.tell.ensures c.loop-transaction.invariant

pub returns-clause-undone : goal.returns-clause-undone
returns-clause-undone g c = undone_to g.L.Analysis.meaning _ _ _ _ _ (omega arith) c.loop-transaction.invariant

pub returns-clause-reported : goal.returns-clause-reported
returns-clause-reported g c = undone_notified g.L.Analysis.meaning _ _ _ _ _ (omega arith) c.loop-transaction.invariant
