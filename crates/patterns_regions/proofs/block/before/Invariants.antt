use Rattle.std.proofs.Common.{length, ◌-◌}
use Rattle.ir_event.specs.tree_laws.Reads.{ops_at}
use Rattle.patterns_regions.proofs.Walking.{Walked, count_in}
use Rattle.patterns_regions.proofs.block.before.Given as goal

abbrev pub invariant-ops : goal.invariant-ops
invariant-ops l = Walked l.world.store.module_of.tree l.fn.op l.fn.region l.at l.ops.items

abbrev pub decreases-ops : goal.decreases-ops
decreases-ops l = count_in (ops_at l.fn.op l.fn.region l.world.store.module_of.tree) - length l.ops.items
