use Rattle.std.proofs.Common.{◌≡◌, ◌-◌}
use Rattle.ir_store_reads.specs.trees.Limits.{most_around}
use Rattle.ir_store_reads.specs.tree_laws.Reads.{around}
use Rattle.ir_store.specs.Shifting.{level}
use Rattle.ir_store.proofs.store.Store.headroom_in.Given as goal

abbrev pub invariant-around : goal.invariant-around
invariant-around l = l.headroom - level (around l.at l.self.module_of.tree) ≡ most_around - level (around l.fn.op l.self.module_of.tree)

abbrev pub decreases-around : goal.decreases-around
decreases-around l = l.headroom
