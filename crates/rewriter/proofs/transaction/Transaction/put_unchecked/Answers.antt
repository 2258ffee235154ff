use Rattle.std.proofs.Common.{◌≡◌, rules}
use Rattle.ir_event.specs.store.Calls.{after_put}
use Rattle.rewriter_machine.specs.Journals.{IsStoreOf}
use Rattle.rewriter.specs.Held.{TransactionModel}
use Rattle.rewriter.specs.Moves.{noted_as}
use Rattle.rewriter.proofs.Following.{tidy_put}
use Rattle.rewriter.proofs.Made.{Made, put_made, made_edited, made_good, tidy_if}
use Rattle.rewriter.proofs.transaction.Transaction.put_unchecked.Goals as goal

pub invariant_of-self-2 : goal.invariant_of-self-2
invariant_of-self-2 c =
    let w = c.self.inside.world in
    let h : TransactionModel = record { ctx = w.ctx; store = w.store; journal = c.self.inside.journal.items; marks = c.self.inside.marks.items } in
    let is : IsStoreOf w.ctx w.store = record { context = c.sound.ensures; sound = w.sound; wellformed = w.wellformed; held = w.held } in
    let kept : c.note.new.journal.items ≡ noted_as h.marks h.journal c.put_unchecked-made.result = search rules in
    let made : Made h (after_put c.args.place c.args.header.now w.store) c.put_unchecked-made.new.world.store c.put_unchecked-made.result = put_made h c.self.invariant is c.put_unchecked-made.new.world.ctx c.put_unchecked-made.ensures.ctx c.put_unchecked-made.new.world.store c.args.place c.args.header.now (rw (← c.self.view_is) at c.requires.sound) c.requires.bare c.put_unchecked-made.result c.put_unchecked-made.ensures.step c.put_unchecked-made.ensures.store c.put_unchecked-made.ensures.err in
    made_good h c.self.invariant (after_put c.args.place c.args.header.now w.store) c.put_unchecked-made.new.world.store c.put_unchecked-made.result made c.put_unchecked-made.new.world.ctx c.note.new.journal.items c.put_unchecked-made.ensures.ctx kept

pub returns-clause-ok : goal.returns-clause-ok
returns-clause-ok c =
    let w = c.self.inside.world in
    let h : TransactionModel = record { ctx = w.ctx; store = w.store; journal = c.self.inside.journal.items; marks = c.self.inside.marks.items } in
    let is : IsStoreOf w.ctx w.store = record { context = c.sound.ensures; sound = w.sound; wellformed = w.wellformed; held = w.held } in
    let kept : c.note.new.journal.items ≡ noted_as h.marks h.journal c.put_unchecked-made.result = search rules in
    let made : Made h (after_put c.args.place c.args.header.now w.store) c.put_unchecked-made.new.world.store c.put_unchecked-made.result = put_made h c.self.invariant is c.put_unchecked-made.new.world.ctx c.put_unchecked-made.ensures.ctx c.put_unchecked-made.new.world.store c.args.place c.args.header.now (rw (← c.self.view_is) at c.requires.sound) c.requires.bare c.put_unchecked-made.result c.put_unchecked-made.ensures.step c.put_unchecked-made.ensures.store c.put_unchecked-made.ensures.err in
    rw (← c.self.view_is) (made_edited h c.self.invariant (after_put c.args.place c.args.header.now w.store) c.put_unchecked-made.new.world.store c.put_unchecked-made.result made c.put_unchecked-made.new.world.ctx c.note.new.journal.items c.put_unchecked-made.ensures.ctx kept)

pub returns-clause-tidy : goal.returns-clause-tidy
returns-clause-tidy c =
    let w = c.self.inside.world in
    tidy_if w.store c.put_unchecked-made.new.world.store (after_put c.args.place c.args.header.now w.store) c.put_unchecked-made.result c.put_unchecked-made.ensures.store c.put_unchecked-made.ensures.err (rw (← c.self.view_is) at c.requires.tidy) (tidy_put c.args.place c.args.header.now w.store)

pub put_unchecked-made-requires-clause-free : goal.put_unchecked-made-requires-clause-free
put_unchecked-made-requires-clause-free c = rw (← c.self.view_is) at c.requires.free

pub put_unchecked-made-requires-clause-sound : goal.put_unchecked-made-requires-clause-sound
put_unchecked-made-requires-clause-sound c = rw (← c.self.view_is) at c.requires.sound
