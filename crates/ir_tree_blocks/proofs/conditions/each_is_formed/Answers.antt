use Rattle.std.proofs.Common.{◌∙◌}
use Rattle.ir_tree_blocks.specs.Whole.{is_formed}
use Rattle.ir_tree_blocks.proofs.FiveConditions.{every_meaning}
use Rattle.ir_tree_blocks.proofs.conditions.each_is_formed.Goals as goal

pub returns : goal.returns
returns c = c.every_op.ensures ∙ every_meaning c.args.ctx.now is_formed c.args.root.now
