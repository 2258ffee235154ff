use Rattle.std.proofs.Common.{◌≡◌, ◌-◌}
use Rattle.ir_event.specs.trees.Ids.{find}
use Rattle.greedy.specs.Following.{first_inside}
use Rattle.greedy.proofs.walk.first_from.Given as goal

abbrev pub invariant-regions : goal.invariant-regions
invariant-regions l = first_inside l.from (find l.op l.store.module_of.tree) ≡ first_inside l.region (find l.op l.store.module_of.tree)

abbrev pub decreases-regions : goal.decreases-regions
decreases-regions l = l.count - l.region
