use Rattle.std.proofs.Common.{◌≡◌, ℕ, Option, drop}
use Rattle.std.specs.Ordering.{nat_cmp}
use Rattle.std.specs.BTreeMap.{get}
use Rattle.ir_event.specs.Modules.{module_in}
use Rattle.listeners_support.specs.Facts.{kept_of, Renewed}
use Rattle.listeners_support.proofs.fact_table.renew_all.Given as goal

abbrev pub invariant-loop-op : goal.invariant-loop-op
invariant-loop-op g l =
    let facts = kept_of g.F.LocalFact.fact g.F.LocalFact.kept (module_in l.initial.view.world.now).tree in
    (l.view.world.now ≡ l.initial.view.world.now)
    × ((final : ℕ → Option _) → Renewed facts (drop l.op-index l.ops) (get nat_cmp l.table) final → Renewed facts l.ops (get nat_cmp l.initial.table) final)
