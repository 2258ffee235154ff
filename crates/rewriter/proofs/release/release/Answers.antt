use Rattle.rewriter.proofs.Released.{wellformed_released, held_released, sound_released}
use Rattle.rewriter.proofs.release.release.Goals as goal

pub invariant_of-world : goal.invariant_of-world
invariant_of-world c =
    let w = c.args.world.now in
    record {
      sound = sound_released w.ctx c.args.from w.store c.release.new.self c.release.ensures w.sound;
      wellformed = wellformed_released w.ctx c.args.from w.store c.release.new.self c.release.ensures w.wellformed;
      held = held_released w.ctx c.args.from w.store c.release.new.self c.release.ensures w.held;
    }
