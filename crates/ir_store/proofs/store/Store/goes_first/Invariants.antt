use Rattle.std.proofs.Common.{◌≡◌}
use Rattle.ir_store_reads.specs.tree_laws.Reads.{precedes}
use Rattle.ir_store.specs.Lifted.{level_of}
use Rattle.ir_store.proofs.store.Store.goes_first.Given as goal

abbrev pub invariant-around : goal.invariant-around
invariant-around l = record {
  level : level_of l.first l.self.module_of.tree ≡ level_of l.second l.self.module_of.tree;
  same : precedes l.first l.second l.self.module_of.tree ≡ precedes l.fn.op l.fn.other l.self.module_of.tree;
}

abbrev pub decreases-around : goal.decreases-around
decreases-around l = level_of l.first l.self.module_of.tree
