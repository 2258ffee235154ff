use Rattle.std.proofs.Common.{◌∙◌}
use Rattle.ir_tree_blocks.specs.Whole.{has_no_scope}
use Rattle.ir_tree_blocks.proofs.Tests.{lists_are}
use Rattle.ir_tree_blocks.proofs.shapes.have_no_scopes.Goals as goal

pub returns : goal.returns
returns c = c.none_has_scope.ensures ∙ lists_are c.args.ctx.now has_no_scope c.args.regions.now.items
