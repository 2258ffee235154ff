use Rattle.mlir_work_session.proofs.Reading.{grown_so, sound_holds}
use Rattle.mlir_work_session.proofs.operations.read.Goals as goal

pub returns-clause-grown : goal.returns-clause-grown
returns-clause-grown g c = grown_so g.L.Analysis.meaning _ _ c.read_op-read.ensures.grown c.read_op-read.ensures.listeners c.read_op-read.ensures.led c.led_benches_are_kept.ensures.kept (sound_holds _ _ c.world.ensures.ctx c.sound.ensures) (sound_holds _ _ c.world-2.ensures.ctx c.sound-2.ensures)
