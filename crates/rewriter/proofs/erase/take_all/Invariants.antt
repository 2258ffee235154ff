use Rattle.std.proofs.Common.{length}
use Rattle.ir_event.specs.trees.Ids.{find}
use Rattle.rewriter.specs.Edits.{Erase}
use Rattle.rewriter_machine.specs.Erasing.{ids_in}
use Rattle.rewriter.proofs.Together.{IsUnderway}
use Rattle.rewriter.proofs.erase.take_all.Given as goal

abbrev pub invariant-rest : goal.invariant-rest
invariant-rest g l = IsUnderway g.L.Analysis.meaning (Erase l.op) l.initial.bench l.bench

abbrev pub decreases-rest : goal.decreases-rest
decreases-rest g l = length (ids_in (find l.op l.bench.transaction.store.module_of.tree))
