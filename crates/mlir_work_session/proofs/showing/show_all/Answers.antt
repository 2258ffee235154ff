use Rattle.mlir_work_session_base.specs.OperationObjects.{all_objects_text}
use Rattle.mlir_work_session.proofs.Fulfilling.{fulfils_shown, fulfils_unshown}
use Rattle.mlir_work_session.proofs.Reading.{held_bytes}
use Rattle.mlir_work_session.proofs.showing.show_all.Goals as goal

pub returns-in-Ok : goal.returns-in-Ok
returns-in-Ok g c setting = fulfils_shown setting _ c.in-Ok.shows.items (held_bytes c.args.bench.now.transaction c.world.result.now c.world.ensures.ctx c.world.ensures.store all_objects_text _ c.in-Ok.ensures)

pub returns-in-Err : goal.returns-in-Err
returns-in-Err g c setting = rw (c.reply_only.ensures.reply, c.reply_only.ensures.shows) (fulfils_unshown setting _)
