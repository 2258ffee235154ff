use Rattle.mlir_work_session.proofs.Obeying.{prints}
use Rattle.mlir_work_session.proofs.Reading.{held_text}
use Rattle.mlir_work_session.proofs.shows.show_module.Goals as goal

pub returns : goal.returns
returns g c session_options = prints session_options _ c.in-Ok.shows.items (held_text c.args.bench.now.transaction c.world.result.now c.world.ensures.ctx c.world.ensures.store _ c.in-Ok.ensures)
