use Rattle.std.proofs.Common.{◌≡◌, ◌+◌, ◌-◌, ◌≤◌, ◌++◌, ◌∷◌, Some}
use Rattle.ir_event.specs.trees.Ids.{find}
use Rattle.ir_event.specs.tree_laws.Reads.{last_at}
use Rattle.listeners_support.specs.Gathered.{tree_in, from_on, regions_found}
use Rattle.listeners_support.proofs.fact.lasts.Given as goal

abbrev pub invariant-loop-region : goal.invariant-loop-region
invariant-loop-region l =
    let tree = tree_in l.fn.view.world.now in
    let count = regions_found (find l.op tree) in
    record {
      world : l.view.world.now ≡ l.fn.view.world.now;
      looks : l.view.looks ≤ l.fn.view.looks + (2 + l.region);
      ops : l.ops.items ++ from_on (λ r. last_at l.op r tree) l.region (count - l.region) ≡ Some l.op ∷ from_on (λ r. last_at l.op r tree) 0 count;
    }
