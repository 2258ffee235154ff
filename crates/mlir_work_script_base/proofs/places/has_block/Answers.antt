use Rattle.std.proofs.Common.{◌∙◌, ap, sym}
use Rattle.std.specs.Prelude.{is_some}
use Rattle.ir_event.specs.trees.Ids.{find}
use Rattle.ir_event.proofs.of_tree_laws.Contents.{some_map}
use Rattle.mlir_work_script_base.proofs.Placed.{block_is, no_block}
use Rattle.mlir_work_script_base.proofs.places.has_block.Goals as goal

pub returns-in-None : goal.returns-in-None
returns-in-None c = no_block c.args.region (find c.args.op c.args.world.now.store.module_of.tree) (sym c.in-None.is ∙ c.shown.ensures.node)

pub returns-in-Some : goal.returns-in-Some
returns-in-Some c =
    c.is_some.ensures ∙ sym (some_map (λ a. a.now) c.arguments.result) ∙ ap is_some c.arguments.ensures
    ∙ block_is c.args.region c.in-Some.node (find c.args.op c.args.world.now.store.module_of.tree) (sym c.in-Some.is ∙ c.shown.ensures.node)
