use Rattle.std.proofs.Common.{◌∙◌, sym}
use Rattle.ir_event.specs.types.Terms.{name_term, type_term, attr_term}
use Rattle.ir_event.proofs.of_trees.Mapped.{map_ids}
use Rattle.ir_event.specs.Modules.{module_in}
use Rattle.listeners_symbols.specs.Listeners.{kept_at}
use Rattle.listeners_symbols.specs.Table.{tree_in}
use Rattle.listeners_symbols.proofs.Added.{all_added, added_in}
use Rattle.listeners_symbols.proofs.table.tabulate.Goals as goal

pub returns : goal.returns
returns c =
    let w = c.args.world.now in
    let f = kept_at c.new-roles.result in
    let g = kept_at c.renew_all.new.roles in
    all_added w.ctx (module_in w).tree c.deref.result.now f g (c.deref.ensures.value ∙ c.in-Ok.ensures.listed ∙ sym (map_ids (name_term w.ctx) (type_term w.ctx) (attr_term w.ctx) (tree_in w))) c.new-roles.ensures
    (added_in c.new-view.result.world.now w c.new-view.ensures.world c.deref.result.now f g c.in_ok-renew_all.ensures)
