use Rattle.std.proofs.Common.{◌≡◌, ◌+◌, ◌-◌, ◌*◌, ◌≤◌, ◌++◌}
use Rattle.listeners_support.specs.Gathered.{tree_in, last_name_at, from_on}
use Rattle.listeners_support.proofs.gather.lasts_of.Given as goal

abbrev pub invariant-loop-region : goal.invariant-loop-region
invariant-loop-region l = record {
  world : l.view.world.now ≡ l.fn.view.world.now;
  looks : l.view.looks ≤ l.fn.view.looks + 2 * l.region;
  lasts : l.lasts.items ++ from_on (last_name_at l.op (tree_in l.fn.view.world.now)) l.region (l.fn.regions - l.region) ≡ from_on (last_name_at l.op (tree_in l.fn.view.world.now)) 0 l.fn.regions;
}
