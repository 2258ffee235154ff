use Rattle.ir_event.proofs.Entering.{held_after, entry_step}
use Rattle.ir_event.proofs.world.World.set_entry.Goals as goal

pub invariant_of-self : goal.invariant_of-self
invariant_of-self c =
    let w = c.args.self.now in
    record {
      sound = c.enter_in.ensures.sound;
      wellformed = c.enter_in.ensures.wellformed w.wellformed;
      held = held_after w.ctx c.args.op c.args.part c.args.key c.args.value w.store c.enter_in.new.store c.enter_in.result c.enter_in.ensures.store c.enter_in.ensures.err w.held;
    }

pub returns-clause-step : goal.returns-clause-step
returns-clause-step c =
    let w = c.args.self.now in
    entry_step w.ctx c.args.op c.args.part c.args.key c.args.value w.store c.enter_in.new.store c.enter_in.result c.enter_in.ensures.event c.enter_in.ensures.store c.enter_in.ensures.refused w.wellformed w.sound c.requires.key c.requires.value
