use Rattle.rewriter.proofs.Inserted.{held_inserted, insert_step, may_insert, sound_inserted, wellformed_inserted}
use Rattle.rewriter.proofs.putting.put_unchecked.Goals as goal

pub insert_in-requires-clause-fault : goal.insert_in-requires-clause-fault
insert_in-requires-clause-fault c =
    let w = c.args.world.now in
    may_insert w.ctx c.args.place c.args.header.now w.store c.requires.free

pub invariant_of-world : goal.invariant_of-world
invariant_of-world c =
    let w = c.args.world.now in
    let u = c.insert_in.new.store in
    record {
      sound = sound_inserted w.ctx c.args.place c.args.header.now w.store u c.insert_in.result c.insert_in.ensures.ok c.insert_in.ensures.err c.requires.sound w.sound;
      wellformed = wellformed_inserted w.ctx c.args.place c.args.header.now w.store u c.insert_in.result c.insert_in.ensures.ok c.insert_in.ensures.err c.requires.bare c.requires.free w.wellformed;
      held = held_inserted w.ctx c.args.place c.args.header.now w.store u c.insert_in.result c.insert_in.ensures.ok c.insert_in.ensures.err w.held;
    }

pub returns-clause-step : goal.returns-clause-step
returns-clause-step c =
    let w = c.args.world.now in
    insert_step w.ctx c.args.place c.args.header.now w.store c.insert_in.new.store c.insert_in.result c.insert_in.ensures.ok
    (c.edits_are_steps.ensures.put w.ctx c.args.place c.args.header.now w.store.module_of w.wellformed w.sound c.requires.sound c.requires.bare c.requires.free)
