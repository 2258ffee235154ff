use Rattle.std.proofs.Common.{refl}
use Rattle.ir_event.proofs.of_trees.Meanings.{stays_sound}
use Rattle.ir_event.proofs.Growing.{wellformed_stays, held_stays, module_stays}
use Rattle.rewriter.proofs.NextTo.{types_known, ok_so, ok_numbered, none_next_to}
use Rattle.rewriter.proofs.read_in_module.read_op.Goals as goal

pub invariant_of-world : goal.invariant_of-world
invariant_of-world c =
    let w = c.args.world.now in
    let grows = c.read_op-read.ensures.grows in
    record {
      sound = stays_sound w.ctx c.read_op-read.new.ctx w.store.module_of.tree grows w.sound;
      wellformed = wellformed_stays w.ctx c.read_op-read.new.ctx w.store.module_of c.sound.ensures.holds grows w.sound w.wellformed;
      held = held_stays w.ctx c.read_op-read.new.ctx w.store.held grows w.held;
    }

pub returns-clause-grown : goal.returns-clause-grown
returns-clause-grown c =
    let w = c.args.world.now in
    record {
      grows = c.read_op-read.ensures.grows;
      before = c.sound.ensures.holds;
      after = c.sound-2.ensures.holds;
      same = module_stays w.ctx c.read_op-read.new.ctx w.store.module_of c.sound.ensures.holds c.read_op-read.ensures.grows w.sound;
      store = refl;
    }

pub read_op-read-requires : goal.read_op-read-requires
read_op-read-requires c = types_known c.args.world.now

pub returns-clause-read : goal.returns-clause-read
returns-clause-read c = ok_so c.args.world.now c.args.text.now c.read_op-read.new.ctx c.read_op-read.result c.read_op-read.ensures.read

pub returns-clause-numbered : goal.returns-clause-numbered
returns-clause-numbered c = ok_numbered c.args.world.now c.args.text.now c.read_op-read.new.ctx c.read_op-read.result c.read_op-read.ensures.read

pub returns-clause-refused : goal.returns-clause-refused
returns-clause-refused c r o e = none_next_to c.args.world.now c.args.text.now (c.read_op-read.ensures.refused r o e)
