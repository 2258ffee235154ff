use Rattle.ir_tree_blocks.proofs.Edits.{operand_in_form, replaced_in_form, entry_in_form}
use Rattle.ir_tree_blocks.proofs.laws.other_edits_keep_the_form.Goals as goal

pub returns-clause-operand : goal.returns-clause-operand
returns-clause-operand c x k v t f = operand_in_form x k v t f

pub returns-clause-replaced : goal.returns-clause-replaced
returns-clause-replaced c v w t f = replaced_in_form v w t f

pub returns-clause-entry : goal.returns-clause-entry
returns-clause-entry c x part k a t e f = entry_in_form x part k a t e f
