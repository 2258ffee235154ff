use Rattle.ir_event.proofs.Steps.{wellformed_numbers}
use Rattle.ir_event.proofs.Undone.{put_undone, take_undone, operand_undone, entry_undone, shift_undone, relink_undone}
use Rattle.ir_event.proofs.step_laws.undoing_leads_back.Goals as goal

pub returns-clause-put : goal.returns-clause-put
returns-clause-put _ c x place fresh p m s = put_undone c x place fresh p m s

pub returns-clause-take : goal.returns-clause-take
returns-clause-take _ c x place fresh p m s o found = take_undone c x place fresh p m s o found

pub returns-clause-operand : goal.returns-clause-operand
returns-clause-operand _ c x k old new p m s = operand_undone c x k old new p m s

pub returns-clause-entry : goal.returns-clause-entry
returns-clause-entry _ c x part k old new p m s = entry_undone c x part k old new p m s

pub returns-clause-shift : goal.returns-clause-shift
returns-clause-shift _ c x old new p m s = shift_undone c x old new p m s

pub returns-clause-relink : goal.returns-clause-relink
returns-clause-relink _ c x old new p m s = relink_undone c x old new p m s

pub returns-clause-wellformed : goal.returns-clause-wellformed
returns-clause-wellformed _ c m w = wellformed_numbers c m w
