use Rattle.ir_event.proofs.undo.undo_in.Goals as goal

pub returns-in-SetEntry : goal.returns-in-SetEntry
returns-in-SetEntry c = rw c.in-SetEntry.is c.revert_entry.ensures.done
