use Rattle.mlir_work_session.proofs.Reading.{grown_so, sound_holds}
use Rattle.mlir_work_session.proofs.attributes.parse.Goals as goal

pub returns-clause-grown : goal.returns-clause-grown
returns-clause-grown g c = grown_so g.L.Analysis.meaning _ _ c.parse_attr-read.ensures.grown c.parse_attr-read.ensures.listeners c.parse_attr-read.ensures.led c.led_benches_are_kept.ensures.kept (sound_holds _ _ c.world.ensures.ctx c.sound.ensures) (sound_holds _ _ c.world-2.ensures.ctx c.sound-2.ensures)
