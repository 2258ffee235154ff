use Rattle.ir_event.proofs.Shifting.{held_after, shift_step, sound_after}
use Rattle.rewriter.proofs.Unchecked.{never_refused, wellformed_moved}
use Rattle.rewriter.proofs.moving.shift_unchecked.Goals as goal

pub invariant_of-world : goal.invariant_of-world
invariant_of-world c =
    let w = c.args.world.now in
    let u = c.move_in.new.store in
    record {
      sound = sound_after w.ctx c.args.op c.args.place w.store u c.move_in.result c.move_in.ensures.store c.move_in.ensures.err w.sound;
      wellformed = wellformed_moved w.ctx c.args.op c.args.place w.store u c.move_in.result c.move_in.ensures.store c.move_in.ensures.err c.requires w.wellformed;
      held = held_after w.ctx c.args.op c.args.place w.store u c.move_in.result c.move_in.ensures.store c.move_in.ensures.err w.held;
    }

pub returns-clause-step : goal.returns-clause-step
returns-clause-step c =
    let w = c.args.world.now in
    shift_step w.ctx c.args.op c.args.place w.store c.move_in.new.store c.move_in.result c.move_in.ensures.event c.move_in.ensures.store (never_refused w.ctx c.args.op c.args.place w.store c.move_in.result c.move_in.ensures.done c.requires) w.wellformed w.sound
