use Rattle.ir_event.proofs.Stepped.{put_steps, take_steps, shift_steps}
use Rattle.ir_event.proofs.Entered.{entry_steps}
use Rattle.ir_event.proofs.step_laws.edits_are_steps.Goals as goal

pub returns-clause-put : goal.returns-clause-put
returns-clause-put _ c place o m w sound own leaf e = put_steps c place o m w sound own leaf e

pub returns-clause-take : goal.returns-clause-take
returns-clause-take _ c x m w sound e = take_steps c x m w sound e

pub returns-clause-shift : goal.returns-clause-shift
returns-clause-shift _ c x place m w sound e = shift_steps c x place m w sound e

pub returns-clause-entry : goal.returns-clause-entry
returns-clause-entry _ c x part k a m w sound key attr e = entry_steps c x part k a m w sound key attr e
