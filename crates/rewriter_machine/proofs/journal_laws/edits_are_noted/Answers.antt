use Rattle.rewriter_machine.proofs.Noting.{put_noted, take_noted, operand_noted, entry_noted, shift_noted}
use Rattle.rewriter_machine.proofs.journal_laws.edits_are_noted.Goals as goal

pub returns-clause-put : goal.returns-clause-put
returns-clause-put _ c place o e es s u w h own is step = put_noted c es s w h e u place o own is step

pub returns-clause-take : goal.returns-clause-take
returns-clause-take _ c x e es s u w h is step = take_noted c es s w h e u x is step

pub returns-clause-operand : goal.returns-clause-operand
returns-clause-operand _ c x k v e es s u w h is step = operand_noted c es s w h e u x k v is step

pub returns-clause-entry : goal.returns-clause-entry
returns-clause-entry _ c x part k a e es s u w slotted h reason is step = entry_noted c es s w h e u x part k a slotted reason is step

pub returns-clause-shift : goal.returns-clause-shift
returns-clause-shift _ c x place e es s u w h is step = shift_noted c es s w h e u x place is step
