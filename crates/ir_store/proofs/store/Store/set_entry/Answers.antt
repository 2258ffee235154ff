use Rattle.ir_store.proofs.Changes.{call_sound, call_wellformed}
use Rattle.ir_store.proofs.store.Store.set_entry.Goals as goal

pub returns-clause-sound : goal.returns-clause-sound
returns-clause-sound c = call_sound c.args.ctx.now c.args.op c.args.part c.args.key c.args.value c.args.self.now _ c.requires.key c.requires.value c.requires.sound c.enter.result c.enter.ensures.done

pub returns-clause-wellformed : goal.returns-clause-wellformed
returns-clause-wellformed c = call_wellformed c.args.ctx.now c.args.op c.args.part c.args.key c.args.value c.args.self.now _ c.requires.key c.requires.value c.requires.sound c.enter.result c.enter.ensures.done
