use Rattle.ir_event.proofs.Putting.{sound_after, held_after, put_step}
use Rattle.ir_event.proofs.world.World.put.Goals as goal

pub invariant_of-self : goal.invariant_of-self
invariant_of-self c =
    let w = c.args.self.now in
    record {
      sound = sound_after w.ctx c.args.place c.args.header.now w.store c.put_in.new.store c.put_in.result c.put_in.ensures.ok c.put_in.ensures.err c.requires.sound w.sound;
      wellformed = c.put_in.ensures.wellformed w.wellformed;
      held = held_after w.ctx c.args.place c.args.header.now w.store c.put_in.new.store c.put_in.result c.put_in.ensures.ok c.put_in.ensures.err w.held;
    }

pub returns-clause-step : goal.returns-clause-step
returns-clause-step c =
    let w = c.args.self.now in
    put_step w.ctx c.args.place c.args.header.now w.store c.put_in.new.store c.put_in.result c.put_in.ensures.ok c.put_in.ensures.refused w.wellformed w.sound c.requires.sound c.requires.bare
