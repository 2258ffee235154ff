use Rattle.std.proofs.Common.{◌≡◌}
use Rattle.ir_store_reads.specs.trees.Ids.{find}
use Rattle.ir_store_reads.specs.tree_laws.Reads.{is_within}
use Rattle.ir_store.specs.Lifted.{level_of}
use Rattle.ir_store.proofs.store.Store.is_within.Given as goal

abbrev pub invariant-around : goal.invariant-around
invariant-around l = is_within l.at (find l.fn.op l.self.module_of.tree) ≡ is_within l.fn.inner (find l.fn.op l.self.module_of.tree)

abbrev pub decreases-around : goal.decreases-around
decreases-around l = level_of l.at l.self.module_of.tree
