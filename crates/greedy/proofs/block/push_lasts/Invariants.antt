use Rattle.std.proofs.Common.{◌≡◌, ◌-◌, true}
use Rattle.greedy.specs.Reached.{ends}
use Rattle.greedy.specs.Adding.{Adding}
use Rattle.greedy.proofs.Reached.{IsLastAmong}
use Rattle.greedy.proofs.block.push_lasts.Given as goal

abbrev pub invariant-regions : goal.invariant-regions
invariant-regions l =
    Adding (λ x. ends l.fn.op x l.fn.world.store.module_of.tree ≡ true) (IsLastAmong l.fn.op l.region l.count l.fn.world.store.module_of.tree) l.fn.ops.items l.ops.items

abbrev pub decreases-regions : goal.decreases-regions
decreases-regions l = l.count - l.region
