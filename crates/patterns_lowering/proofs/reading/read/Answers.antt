use Rattle.std.proofs.Common.{sym, ap, ◌∙◌, map, subst, true, ◌≡◌}
use Rattle.std.specs.List.{list_all}
use Rattle.ir_event.specs.types.Terms.{type_term}
use Rattle.ir_event.specs.trees.Meaning.{is_type}
use Rattle.ir_event.specs.Modules.{module_in}
use Rattle.effects.proofs.Reached.{few_regions}
use Rattle.patterns_soundness.specs.base.Looks.{is_index_value}
use Rattle.patterns_soundness.specs.base.Lowering.{indices}
use Rattle.patterns_lowering.proofs.Shown.{shown_known, was_read}
use Rattle.patterns_lowering.proofs.reading.read.Goals as goal

pub indices-requires : goal.indices-requires
indices-requires c = subst (λ l. list_all (is_type c.args.world.now.ctx) l ≡ true) (sym c.results.ensures) (shown_known c.args.world.now c.args.op c.args.node.now c.requires)

pub bare-requires : goal.bare-requires
bare-requires c = few_regions c.args.world.now c.args.op c.args.node.now c.requires

pub returns : goal.returns
returns c =
    was_read c.args.world.now c.args.op c.args.node.now c.requires _ c.in_ok-op.ensures
    (c.in_ok-index_operands.ensures ∙ ap (map (is_index_value (module_in c.args.world.now).tree)) c.operands.ensures)
    (c.in_ok-index_results.ensures ∙ ap (λ l. indices (map (type_term c.args.world.now.ctx) l)) c.results.ensures)
