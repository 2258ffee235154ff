use Rattle.std.proofs.Common.{◌≡◌, rules}
use Rattle.ir_event.specs.store.Calls.{after_put}
use Rattle.rewriter_machine.specs.Journals.{IsStoreOf}
use Rattle.rewriter.specs.Held.{TransactionModel}
use Rattle.rewriter.specs.Moves.{noted_as}
use Rattle.rewriter.proofs.Following.{tidy_put}
use Rattle.rewriter.proofs.Made.{Made, answered_for, put_made, made_edited, made_good, tidy_if}
use Rattle.rewriter.proofs.transaction.Transaction.put.Goals as goal

pub invariant_of-self-2 : goal.invariant_of-self-2
invariant_of-self-2 c =
    let w = c.self.inside.world in
    let h : TransactionModel = record { ctx = w.ctx; store = w.store; journal = c.self.inside.journal.items; marks = c.self.inside.marks.items } in
    let is : IsStoreOf w.ctx w.store = record { context = c.sound.ensures; sound = w.sound; wellformed = w.wellformed; held = w.held } in
    let kept : c.note.new.journal.items ≡ noted_as h.marks h.journal c.put-made.result = search rules in
    let made : Made h (after_put c.args.place c.args.header.now w.store) c.put-made.new.self.store c.put-made.result = put_made h c.self.invariant is c.put-made.new.self.ctx c.put-made.ensures.ctx c.put-made.new.self.store c.args.place c.args.header.now (rw (← c.self.view_is) at c.requires.sound) c.requires.bare c.put-made.result c.put-made.ensures.step c.put-made.ensures.store c.put-made.ensures.err in
    made_good h c.self.invariant (after_put c.args.place c.args.header.now w.store) c.put-made.new.self.store c.put-made.result made c.put-made.new.self.ctx c.note.new.journal.items c.put-made.ensures.ctx kept

pub returns-clause-ok : goal.returns-clause-ok
returns-clause-ok c =
    let w = c.self.inside.world in
    let h : TransactionModel = record { ctx = w.ctx; store = w.store; journal = c.self.inside.journal.items; marks = c.self.inside.marks.items } in
    let is : IsStoreOf w.ctx w.store = record { context = c.sound.ensures; sound = w.sound; wellformed = w.wellformed; held = w.held } in
    let kept : c.note.new.journal.items ≡ noted_as h.marks h.journal c.put-made.result = search rules in
    let made : Made h (after_put c.args.place c.args.header.now w.store) c.put-made.new.self.store c.put-made.result = put_made h c.self.invariant is c.put-made.new.self.ctx c.put-made.ensures.ctx c.put-made.new.self.store c.args.place c.args.header.now (rw (← c.self.view_is) at c.requires.sound) c.requires.bare c.put-made.result c.put-made.ensures.step c.put-made.ensures.store c.put-made.ensures.err in
    rw (← c.self.view_is) (made_edited h c.self.invariant (after_put c.args.place c.args.header.now w.store) c.put-made.new.self.store c.put-made.result made c.put-made.new.self.ctx c.note.new.journal.items c.put-made.ensures.ctx kept)

pub returns-clause-refused : goal.returns-clause-refused
returns-clause-refused c = rw (← c.self.view_is) (answered_for _ c.put-made.result c.put-made.ensures.refused)

pub returns-clause-tidy : goal.returns-clause-tidy
returns-clause-tidy c =
    let w = c.self.inside.world in
    tidy_if w.store c.put-made.new.self.store (after_put c.args.place c.args.header.now w.store) c.put-made.result c.put-made.ensures.store c.put-made.ensures.err (rw (← c.self.view_is) at c.requires.tidy) (tidy_put c.args.place c.args.header.now w.store)
