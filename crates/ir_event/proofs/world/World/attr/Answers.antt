use Rattle.ir_store.proofs.of_trees.Meanings.{stays_sound}
use Rattle.ir_event.proofs.Growing.{wellformed_stays, held_stays, module_stays}
use Rattle.ir_event.proofs.world.World.attr.Goals as goal

pub invariant_of-self : goal.invariant_of-self
invariant_of-self c =
    let w = c.args.self.now in
    let grows = c.attr.ensures.grows in
    record {
      sound = stays_sound w.ctx c.attr.new.self w.store.module_of.tree grows w.sound;
      wellformed = wellformed_stays w.ctx c.attr.new.self w.store.module_of c.sound.ensures.holds grows w.sound w.wellformed;
      held = held_stays w.ctx c.attr.new.self w.store.held grows w.held;
    }

pub returns-clause-module : goal.returns-clause-module
returns-clause-module c = let w = c.args.self.now in module_stays w.ctx c.attr.new.self w.store.module_of c.sound.ensures.holds c.attr.ensures.grows w.sound
