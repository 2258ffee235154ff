use Rattle.std.proofs.Common.{◌≡◌, drop}
use Rattle.ir_event.specs.Modules.{module_in}
use Rattle.listeners_symbols.specs.Listeners.{kept_at}
use Rattle.listeners_symbols.specs.Table.{Added, Table}
use Rattle.listeners_symbols.proofs.table.renew_all.Given as goal

abbrev pub invariant-loop-op : goal.invariant-loop-op
invariant-loop-op l =
    let w = l.initial.view.world.now in
    (l.view.world.now ≡ w) × ((final : Table) → Added w.ctx (module_in w).tree (drop l.op-index l.ops) (kept_at l.roles) final → Added w.ctx (module_in w).tree l.ops (kept_at l.initial.roles) final)
