use Rattle.std.proofs.Common.{◌∙◌}
use Rattle.ir_tree_blocks.specs.Whole.{is_ordered}
use Rattle.ir_tree_blocks.proofs.Tests.{lists_are}
use Rattle.ir_tree_blocks.proofs.shapes.lists_are_ordered.Goals as goal

pub returns : goal.returns
returns c = c.all_are_ordered.ensures ∙ lists_are c.args.ctx.now is_ordered c.args.regions.now.items
