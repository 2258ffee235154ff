use Rattle.ir_tree_blocks.proofs.Samples.{loop_nested, loop_flat, loop_in_form}
use Rattle.ir_tree_blocks.proofs.laws.the_loop_is_nested.Goals as goal

pub returns-clause-nested : goal.returns-clause-nested
returns-clause-nested c = loop_nested

pub returns-clause-flat : goal.returns-clause-flat
returns-clause-flat c = loop_flat

pub returns-clause-form : goal.returns-clause-form
returns-clause-form c = loop_in_form
