use Rattle.std.proofs.Common.{◌∙◌, ap, sym, filter, is_some}
use Rattle.ir_event.specs.types.Terms.{name_term, type_term, attr_term}
use Rattle.ir_event.proofs.of_trees.Mapped.{map_ids}
use Rattle.ir_event.specs.Modules.{module_in}
use Rattle.listeners_symbols.specs.Table.{tree_in}
use Rattle.listeners_symbols.proofs.Gathered.{meaning_distinct}
use Rattle.listeners.specs.Marks.{left_at}
use Rattle.listeners.proofs.Steps.{if_ok}
use Rattle.listeners.proofs.Reported.{left_unreached}
use Rattle.listeners.proofs.list.listed.Goals as goal

pub returns : goal.returns
returns c =
    let w = c.args.world.now in
    let t = (module_in w).tree in
    let left = left_at c.in_ok-left.left in
    let ids_are = c.deref.ensures.value ∙ c.in-Ok.ensures.listed ∙ sym (map_ids (name_term w.ctx) (type_term w.ctx) (attr_term w.ctx) (tree_in w)) in
    if_ok _ _ c.those_left.result (λ v e. e ∙ ap (filter (λ x. is_some (left x))) ids_are ∙ left_unreached w.ctx c.sound.ensures t (meaning_distinct w.ctx (tree_in w) w.wellformed.distinct) c.in_ok-roles.roles c.ordered.ensures.all c.in_ok-roles.ensures left c.in_ok-left.ensures) c.those_left.ensures
