use Rattle.std.proofs.Common.{subst, sym}
use Rattle.ir_store.specs.trees.Meaning.{IsSoundIn}
use Rattle.ir_store.specs.trees.WellFormed.{Module}
use Rattle.ir_event.proofs.Growing.{held_loaded}
use Rattle.ir_event.proofs.world.World.load.Goals as goal

pub invariant_of-result : goal.invariant_of-result
invariant_of-result c = record {
  sound = subst (λ (m : Module). IsSoundIn c.args.ctx m.tree) (sym c.in_ok-store.ensures.ok.module_of) c.requires.sound;
  wellformed = c.in_ok-store.ensures.wellformed;
  held = held_loaded c.args.ctx c.args.tree.now c.args.next c.in_ok-store.store c.in_ok-store.ensures.ok;
}
