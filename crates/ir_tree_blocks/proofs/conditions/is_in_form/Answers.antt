use Rattle.ir_tree.specs.Meaning.{meaning}
use Rattle.ir_tree_blocks.proofs.FiveConditions.{nested_is}
use Rattle.ir_tree_blocks.proofs.conditions.is_in_form.Goals as goal

pub returns : goal.returns
returns c = nested_is c.in_ok-passes.passes (meaning c.args.ctx.now c.args.root.now) c.in_ok-passes.ensures
