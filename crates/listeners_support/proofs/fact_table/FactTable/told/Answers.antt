use Rattle.std.proofs.Common.{inl}
use Rattle.std.specs.Ordering.{nat_cmp}
use Rattle.std.specs.BTreeMap.{get}
use Rattle.ir_event.specs.Modules.{context_model, module_in}
use Rattle.listeners_support.proofs.Tables.{renewed_keeps}
use Rattle.listeners_support.proofs.fact_table.FactTable.told.Goals as goal

pub returns-in-Ok-clause-agrees : goal.returns-in-Ok-clause-agrees
returns-in-Ok-clause-agrees g c m step held =
    let w = c.args.view.world.now in
    inl (held.0, renewed_keeps g.F.LocalFact.fact g.F.LocalFact.kept (context_model w) c.args.event m (module_in w) (get nat_cmp c.args.self.now.table) (get nat_cmp c.follow.new.table) step held.1 c.in-Ok.ensures.renewed)
