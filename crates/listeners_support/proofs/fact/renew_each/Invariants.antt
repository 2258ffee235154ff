use Rattle.std.proofs.Common.{◌≡◌, ◌+◌, ◌≤◌, ℕ, Option, drop}
use Rattle.std.specs.Ordering.{nat_cmp}
use Rattle.std.specs.BTreeMap.{get}
use Rattle.ir_event.specs.Modules.{module_in}
use Rattle.listeners_support.specs.Near.{somes}
use Rattle.listeners_support.specs.Facts.{kept_of, Renewed}
use Rattle.listeners_support.specs.Gathered.{gathers_for, tree_in}
use Rattle.listeners_support.proofs.fact.renew_each.Given as goal

abbrev pub invariant-loop-place : goal.invariant-loop-place
invariant-loop-place g l = record {
  world : l.view.world.now ≡ l.fn.view.world.now;
  looks : l.view.looks + gathers_for (tree_in l.fn.view.world.now) (somes (drop l.place l.ops)) ≤ l.fn.view.looks + gathers_for (tree_in l.fn.view.world.now) (somes l.fn.ops);
  renewed : (final : ℕ → Option _) → Renewed (kept_of g.F.LocalFact.fact g.F.LocalFact.kept (module_in l.fn.view.world.now).tree) (somes (drop l.place l.ops)) (get nat_cmp l.table) final
      → Renewed (kept_of g.F.LocalFact.fact g.F.LocalFact.kept (module_in l.fn.view.world.now).tree) (somes l.fn.ops) (get nat_cmp l.fn.table) final;
}
