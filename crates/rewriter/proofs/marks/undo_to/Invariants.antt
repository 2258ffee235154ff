use Rattle.std.proofs.Common.{length}
use Rattle.rewriter.proofs.Undo.{Undoing}
use Rattle.rewriter.proofs.marks.undo_to.Given as goal

abbrev pub invariant-loop-transaction : goal.invariant-loop-transaction
invariant-loop-transaction g l = Undoing g.L.Analysis.meaning l.mark l.fn.transaction l.transaction l.fn.panel l.panel

abbrev pub decreases-loop-transaction : goal.decreases-loop-transaction
decreases-loop-transaction g l = length l.transaction.journal
