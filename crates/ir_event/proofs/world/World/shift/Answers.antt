use Rattle.ir_event.proofs.Shifting.{sound_after, held_after, shift_step}
use Rattle.ir_event.proofs.world.World.shift.Goals as goal

pub invariant_of-self : goal.invariant_of-self
invariant_of-self c =
    let w = c.args.self.now in
    record {
      sound = sound_after w.ctx c.args.op c.args.place w.store c.shift_in.new.store c.shift_in.result c.shift_in.ensures.store c.shift_in.ensures.err w.sound;
      wellformed = c.shift_in.ensures.wellformed;
      held = held_after w.ctx c.args.op c.args.place w.store c.shift_in.new.store c.shift_in.result c.shift_in.ensures.store c.shift_in.ensures.err w.held;
    }

pub returns-clause-step : goal.returns-clause-step
returns-clause-step c =
    let w = c.args.self.now in
    shift_step w.ctx c.args.op c.args.place w.store c.shift_in.new.store c.shift_in.result c.shift_in.ensures.event c.shift_in.ensures.store c.shift_in.ensures.refused w.wellformed w.sound
