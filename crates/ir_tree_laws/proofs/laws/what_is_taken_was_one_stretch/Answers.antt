use Rattle.ir_tree_laws.proofs.Edited.{taken_inside, taken_order, taken_op_count, taken_uses}
use Rattle.ir_tree_laws.proofs.laws.what_is_taken_was_one_stretch.Goals as goal

pub returns-clause-inside : goal.returns-clause-inside
returns-clause-inside g _ x t o d e r = taken_inside x t o d e r

pub returns-clause-order : goal.returns-clause-order
returns-clause-order g _ x t o d e r = taken_order x t o d e r

pub returns-clause-count : goal.returns-clause-count
returns-clause-count g _ x t o d e r = taken_op_count x t o d e r

pub returns-clause-uses : goal.returns-clause-uses
returns-clause-uses g _ x t o d e r v = taken_uses x t o d e r v
