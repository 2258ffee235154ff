use Rattle.mlir_work_session.proofs.Fulfilling.{fulfils_printed}
use Rattle.mlir_work_session.proofs.Reading.{held_ids}
use Rattle.mlir_work_session.proofs.session_commands.show_ids.Goals as goal

pub returns : goal.returns
returns g c setting = fulfils_printed setting _ c.in-Ok.shows.items (held_ids c.args.bench.now.transaction c.world.result.now c.world.ensures.ctx c.world.ensures.store _ c.in-Ok.ensures)
