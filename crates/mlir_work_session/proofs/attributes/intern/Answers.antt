use Rattle.mlir_work_session.proofs.Reading.{grown_so, named_so, sound_holds}
use Rattle.mlir_work_session.proofs.attributes.intern.Goals as goal

pub returns-in-Ok-clause-name : goal.returns-in-Ok-clause-name
returns-in-Ok-clause-name g c = named_so c.args.bytes.now c.args.bench.now.transaction.ctx c.name-named.new.self.transaction.ctx c.in-Ok.name c.in-Ok.ensures.ok

pub returns-in-Ok-clause-grown : goal.returns-in-Ok-clause-grown
returns-in-Ok-clause-grown g c = grown_so g.L.Analysis.meaning _ _ c.name-named.ensures.grown c.name-named.ensures.listeners c.name-named.ensures.led c.led_benches_are_kept.ensures.kept (sound_holds _ _ c.world.ensures.ctx c.sound.ensures) (sound_holds _ _ c.world-2.ensures.ctx c.sound-2.ensures)

pub returns-in-Err-clause-grown : goal.returns-in-Err-clause-grown
returns-in-Err-clause-grown g c = grown_so g.L.Analysis.meaning _ _ c.name-named.ensures.grown c.name-named.ensures.listeners c.name-named.ensures.led c.led_benches_are_kept.ensures.kept (sound_holds _ _ c.world.ensures.ctx c.sound.ensures) (sound_holds _ _ c.world-2.ensures.ctx c.sound-2.ensures)
