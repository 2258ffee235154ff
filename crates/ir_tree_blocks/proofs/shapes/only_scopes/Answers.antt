use Rattle.std.proofs.Common.{◌∙◌}
use Rattle.ir_tree_blocks.proofs.Tests.{only_is}
use Rattle.ir_tree_blocks.proofs.shapes.only_scopes.Goals as goal

pub returns : goal.returns
returns c = c.all_are_scopes.ensures ∙ only_is c.args.ctx.now c.args.ops.now
