use Rattle.std.proofs.Common.{length}
use Rattle.ir_event.specs.trees.Uses.{uses_of}
use Rattle.rewriter.specs.Edits.{Replace}
use Rattle.rewriter.proofs.Together.{IsUnderway}
use Rattle.rewriter.proofs.replace.set_uses.Given as goal

abbrev pub invariant-uses : goal.invariant-uses
invariant-uses g l = IsUnderway g.L.Analysis.meaning (Replace l.old l.new) l.initial.bench l.bench

abbrev pub decreases-uses : goal.decreases-uses
decreases-uses g l = length (uses_of l.old l.bench.transaction.store.module_of.tree)
