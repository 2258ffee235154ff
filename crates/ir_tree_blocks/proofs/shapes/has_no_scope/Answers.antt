use Rattle.std.proofs.Common.{◌∙◌}
use Rattle.ir_tree_blocks.proofs.Tests.{none_is}
use Rattle.ir_tree_blocks.proofs.shapes.has_no_scope.Goals as goal

pub returns : goal.returns
returns c = c.none_is_scope.ensures ∙ none_is c.args.ctx.now c.args.ops.now.items
