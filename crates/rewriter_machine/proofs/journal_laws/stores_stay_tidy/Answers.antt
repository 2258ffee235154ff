use Rattle.rewriter_machine.proofs.Kept.{tidy_loaded, tidy_put, tidy_taken}
use Rattle.rewriter_machine.proofs.Released.{tidy_released}
use Rattle.rewriter_machine.proofs.journal_laws.stores_stay_tidy.Goals as goal

pub returns-clause-loaded : goal.returns-clause-loaded
returns-clause-loaded _ t free s l = tidy_loaded t free s l

pub returns-clause-put : goal.returns-clause-put
returns-clause-put _ place o s h = tidy_put place o s h

pub returns-clause-take : goal.returns-clause-take
returns-clause-take _ isolated x s w h = tidy_taken isolated x s w h

pub returns-clause-operand : goal.returns-clause-operand
returns-clause-operand _ x k v s h = h

pub returns-clause-entry : goal.returns-clause-entry
returns-clause-entry _ order x part k a s h = h

pub returns-clause-shift : goal.returns-clause-shift
returns-clause-shift _ x place s h = h

pub returns-clause-released : goal.returns-clause-released
returns-clause-released _ from s u r le = tidy_released from s u r le
