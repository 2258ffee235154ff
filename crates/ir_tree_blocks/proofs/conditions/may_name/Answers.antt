use Rattle.std.proofs.Common.{◌∙◌, ◌&&◌, eqb}
use Rattle.ir_tree_blocks.specs.Form.{can_name}
use Rattle.ir_tree_blocks.specs.Views.{placed_view}
use Rattle.ir_tree_blocks.proofs.Differing.{any_of_views}
use Rattle.ir_tree_blocks.proofs.conditions.may_name.Goals as goal

pub returns : goal.returns
returns c = c.may_name_one_of.ensures ∙ any_of_views (λ d. eqb d.label c.args.name && can_name (placed_view c.args.block.now) d) c.args.placed.now.items
