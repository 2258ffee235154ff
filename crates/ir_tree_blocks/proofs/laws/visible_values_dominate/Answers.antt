use Rattle.ir_tree_blocks.proofs.Visible.{visible_dominates}
use Rattle.ir_tree_blocks.proofs.laws.visible_values_dominate.Goals as goal

pub returns : goal.returns
returns c t x v form lexical n e = visible_dominates v x t form lexical n e
