use Rattle.ir_tree_blocks.proofs.Shifts.{form_has_flat}
use Rattle.ir_tree_blocks.proofs.laws.trees_in_form_have_flat_trees.Goals as goal

pub returns : goal.returns
returns c t s l = form_has_flat t s l
