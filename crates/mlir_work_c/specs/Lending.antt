-- What a handle slot is once a borrow of its session ends.
use Rattle.std.specs.Prelude.{Some}
use Rattle.std.specs.Borrow.{Lends, MutBor, Fml}
use Rattle.mlir_work_c.specs.declared.session.Session.{Session}
use Rattle.mlir_work_c.specs.contracts.session.Session.{the_row as session_row}
use Rattle.mlir_work_c.specs.declared.handle_slot.HandleSlot.{HandleSlot}
use Rattle.mlir_work_c.specs.contracts.handle_slot.HandleSlot.{the_row as slot_row}

-- the slot with this session
abbrev pub with_session : HandleSlot → Session → HandleSlot
with_session slot session = record { at = slot.at; value = Some session }

-- once the borrow of the session ends, the slot has the session that was left there
abbrev pub LendsSession : MutBor HandleSlot → MutBor Session → Fml
LendsSession slot session = Lends slot_row session_row slot session (with_session slot.now)
