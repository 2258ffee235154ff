use Rattle.mlir_work_session.proofs.Reading.{grown_not, sound_holds}
use Rattle.mlir_work_session.proofs.attributes.name_of.Goals as goal

pub returns-in_default-clause-grown : goal.returns-in_default-clause-grown
returns-in_default-clause-grown g c = grown_not g.L.Analysis.meaning _ (sound_holds _ _ c.world.ensures.ctx c.sound.ensures)
