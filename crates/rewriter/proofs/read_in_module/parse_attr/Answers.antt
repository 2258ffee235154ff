use Rattle.std.proofs.Common.{refl}
use Rattle.ir_event.proofs.of_trees.Meanings.{stays_sound}
use Rattle.ir_event.proofs.Growing.{wellformed_stays, held_stays, module_stays}
use Rattle.rewriter.proofs.read_in_module.parse_attr.Goals as goal

pub invariant_of-world : goal.invariant_of-world
invariant_of-world c =
    let w = c.args.world.now in
    let grows = c.parse_attr-read.ensures.grows in
    record {
      sound = stays_sound w.ctx c.parse_attr-read.new.ctx w.store.module_of.tree grows w.sound;
      wellformed = wellformed_stays w.ctx c.parse_attr-read.new.ctx w.store.module_of c.sound.ensures.holds grows w.sound w.wellformed;
      held = held_stays w.ctx c.parse_attr-read.new.ctx w.store.held grows w.held;
    }

pub returns-clause-grown : goal.returns-clause-grown
returns-clause-grown c =
    let w = c.args.world.now in
    record {
      grows = c.parse_attr-read.ensures.grows;
      before = c.sound.ensures.holds;
      after = c.sound-2.ensures.holds;
      same = module_stays w.ctx c.parse_attr-read.new.ctx w.store.module_of c.sound.ensures.holds c.parse_attr-read.ensures.grows w.sound;
      store = refl;
    }
