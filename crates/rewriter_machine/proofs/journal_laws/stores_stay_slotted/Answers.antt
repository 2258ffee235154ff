use Rattle.rewriter_machine.proofs.Kept.{slotted_entry, slotted_loaded, slotted_operand, slotted_put, slotted_shift, slotted_take, slotted_undone}
use Rattle.rewriter_machine.proofs.Released.{slotted_released}
use Rattle.rewriter_machine.proofs.journal_laws.stores_stay_slotted.Goals as goal

pub returns-clause-loaded : goal.returns-clause-loaded
returns-clause-loaded _ t free s l = slotted_loaded t free s l

pub returns-clause-put : goal.returns-clause-put
returns-clause-put _ place o s leaf h = slotted_put place o s leaf h

pub returns-clause-take : goal.returns-clause-take
returns-clause-take _ x s h = slotted_take x s h

pub returns-clause-operand : goal.returns-clause-operand
returns-clause-operand _ x k v s h = slotted_operand x k v s h

pub returns-clause-entry : goal.returns-clause-entry
returns-clause-entry _ order x part k a s h = slotted_entry order x part k a s h

pub returns-clause-shift : goal.returns-clause-shift
returns-clause-shift _ x place s h = slotted_shift x place s h

pub returns-clause-undone : goal.returns-clause-undone
returns-clause-undone _ c e p s w f h = slotted_undone c e p s w f h

pub returns-clause-released : goal.returns-clause-released
returns-clause-released _ from s u r h = slotted_released from s u r h
