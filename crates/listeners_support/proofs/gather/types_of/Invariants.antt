use Rattle.std.proofs.Common.{◌≡◌, ◌+◌, ◌≤◌, map, take, Some}
use Rattle.std.specs.List.{All}
use Rattle.ir_event.specs.types.Things.{IsType}
use Rattle.ir_event.specs.tree_laws.Values.{type_of_value}
use Rattle.listeners_support.specs.Gathered.{tree_in}
use Rattle.listeners_support.proofs.gather.types_of.Given as goal

abbrev pub invariant-loop-value : goal.invariant-loop-value
invariant-loop-value l = record {
  world : l.view.world.now ≡ l.fn.view.world.now;
  looks : l.view.looks ≤ l.fn.view.looks + l.value-index;
  types : map Some l.types.items ≡ map (λ x. type_of_value x (tree_in l.fn.view.world.now)) (take l.value-index l.values);
  known : All (λ t. IsType l.fn.view.world.now.ctx t) l.types.items;
}
