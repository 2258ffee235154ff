use Rattle.std.proofs.Common.{◌∙◌, sym, refl}
use Rattle.std.specs.Ordering.{nat_cmp}
use Rattle.std.specs.BTreeMap.{get}
use Rattle.ir_event.specs.types.Terms.{name_term, type_term, attr_term}
use Rattle.ir_event.proofs.of_trees.Mapped.{map_ids}
use Rattle.ir_event.specs.Modules.{module_in}
use Rattle.listeners_support.specs.Gathered.{tree_in}
use Rattle.listeners_support.proofs.Tables.{all_renewed, renewed_in}
use Rattle.listeners_support.proofs.fact_table.tabulate.Goals as goal

pub returns : goal.returns
returns g c =
    let w = c.args.world.now in
    let f = get nat_cmp c.new-table.result in
    let h = get nat_cmp c.renew_all.new.table in
    all_renewed g.F.LocalFact.fact g.F.LocalFact.kept (module_in w).tree c.deref.result.now f h (c.deref.ensures.value ∙ c.in-Ok.ensures.listed ∙ sym (map_ids (name_term w.ctx) (type_term w.ctx) (attr_term w.ctx) (tree_in w))) (λ y. rw c.new-table.ensures.empty refl)
    (renewed_in g.F.LocalFact.fact g.F.LocalFact.kept c.new-view.result.world.now w c.new-view.ensures.world c.deref.result.now f h c.in_ok-renew_all.ensures.renewed)
