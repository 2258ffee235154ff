use Rattle.std.proofs.Common.{refl, sym}
use Rattle.ir_event.proofs.Taking.{sound_after, wellformed_after, held_after, located, take_step, shown_taken}
use Rattle.ir_event.proofs.world.World.take.Goals as goal

pub invariant_of-self : goal.invariant_of-self
invariant_of-self c =
    let w = c.args.self.now in
    record {
      sound = sound_after w.ctx c.args.op w.store c.take.new.self c.take.result c.take.ensures w.sound;
      wellformed = wellformed_after w.ctx c.args.op w.store c.take.new.self c.take.result c.take.ensures w.wellformed;
      held = held_after w.ctx c.args.op w.store c.take.new.self c.take.result c.take.ensures w.sound w.held;
    }

pub returns-clause-step : goal.returns-clause-step
returns-clause-step c =
    let w = c.args.self.now in
    (c.in-Some.place, refl, take_step w.ctx c.args.op w.store c.take.new.self c.in-Some.place (sym c.in-Some.ensures) c.in-Ok.ensures.0 c.in-Ok.ensures.1 w.wellformed w.sound)

pub returns-clause-shown : goal.returns-clause-shown
returns-clause-shown c =
    let w = c.args.self.now in
    shown_taken w.ctx c.args.op w.store c.take.new.self c.in-Ok.ensures.0 c.in-Ok.ensures.1

pub returns-in_default-clause-refused : goal.returns-in_default-clause-refused
returns-in_default-clause-refused c =
    let w = c.args.self.now in
    absurd (located w.ctx c.args.op w.store c.take.new.self w.wellformed c.in-Ok.ensures.0 (sym c.in_default.ensures))

pub returns-in_default-clause-err : goal.returns-in_default-clause-err
returns-in_default-clause-err c =
    let w = c.args.self.now in
    absurd (located w.ctx c.args.op w.store c.take.new.self w.wellformed c.in-Ok.ensures.0 (sym c.in_default.ensures))
