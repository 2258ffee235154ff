use Rattle.ir_event.proofs.Growing.{held_set}
use Rattle.ir_event.proofs.Steps.{set_sound, set_steps}
use Rattle.ir_event.proofs.world.World.set_operand.Goals as goal

pub invariant_of-self : goal.invariant_of-self
invariant_of-self c = record {
  sound = set_sound c.args.self.now.ctx c.args.op c.args.k c.args.value c.args.self.now.store c.set_in.new.store c.set_in.result c.set_in.ensures.store c.set_in.ensures.err c.args.self.now.sound;
  wellformed = c.set_in.ensures.wellformed c.args.self.now.wellformed;
  held = held_set c.args.self.now.ctx c.args.op c.args.k c.args.value c.args.self.now.store c.set_in.new.store c.set_in.result c.set_in.ensures.store c.set_in.ensures.err c.args.self.now.held;
}

pub returns-clause-step : goal.returns-clause-step
returns-clause-step c =
    set_steps c.args.self.now.ctx c.args.op c.args.k c.args.value c.args.self.now.store c.set_in.new.store c.set_in.result c.set_in.ensures.store c.set_in.ensures.event c.args.self.now.wellformed
    (c.set_in.ensures.wellformed c.args.self.now.wellformed) c.args.self.now.sound
