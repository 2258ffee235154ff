use Rattle.std.proofs.Common.{◌≡◌, rules}
use Rattle.ir_event.specs.trees.Meaning.{key_before_in}
use Rattle.ir_event.specs.store.Calls.{after_entry}
use Rattle.rewriter_machine.specs.Journals.{IsStoreOf}
use Rattle.rewriter.specs.Held.{TransactionModel}
use Rattle.rewriter.specs.Moves.{noted_as}
use Rattle.rewriter.proofs.Made.{Made, answered_for, entry_made, made_edited, made_good, tidy_if}
use Rattle.rewriter.proofs.transaction.Transaction.set_entry.Goals as goal

pub invariant_of-self-2 : goal.invariant_of-self-2
invariant_of-self-2 c =
    let w = c.self.inside.world in
    let h : TransactionModel = record { ctx = w.ctx; store = w.store; journal = c.self.inside.journal.items; marks = c.self.inside.marks.items } in
    let is : IsStoreOf w.ctx w.store = record { context = c.sound.ensures; sound = w.sound; wellformed = w.wellformed; held = w.held } in
    let kept : c.note.new.journal.items ≡ noted_as h.marks h.journal c.set_entry-made.result = search rules in
    let made : Made h (after_entry (key_before_in w.ctx) c.args.op c.args.part c.args.key c.args.value w.store) c.set_entry-made.new.self.store c.set_entry-made.result = entry_made h c.self.invariant is c.set_entry-made.new.self.ctx c.set_entry-made.ensures.ctx c.set_entry-made.new.self.store c.args.op c.args.part c.args.key c.args.value c.set_entry-made.result c.set_entry-made.ensures.step c.set_entry-made.ensures.refused c.set_entry-made.ensures.store c.set_entry-made.ensures.err in
    made_good h c.self.invariant (after_entry (key_before_in w.ctx) c.args.op c.args.part c.args.key c.args.value w.store) c.set_entry-made.new.self.store c.set_entry-made.result made c.set_entry-made.new.self.ctx c.note.new.journal.items c.set_entry-made.ensures.ctx kept

pub returns-clause-ok : goal.returns-clause-ok
returns-clause-ok c =
    let w = c.self.inside.world in
    let h : TransactionModel = record { ctx = w.ctx; store = w.store; journal = c.self.inside.journal.items; marks = c.self.inside.marks.items } in
    let is : IsStoreOf w.ctx w.store = record { context = c.sound.ensures; sound = w.sound; wellformed = w.wellformed; held = w.held } in
    let kept : c.note.new.journal.items ≡ noted_as h.marks h.journal c.set_entry-made.result = search rules in
    let made : Made h (after_entry (key_before_in w.ctx) c.args.op c.args.part c.args.key c.args.value w.store) c.set_entry-made.new.self.store c.set_entry-made.result = entry_made h c.self.invariant is c.set_entry-made.new.self.ctx c.set_entry-made.ensures.ctx c.set_entry-made.new.self.store c.args.op c.args.part c.args.key c.args.value c.set_entry-made.result c.set_entry-made.ensures.step c.set_entry-made.ensures.refused c.set_entry-made.ensures.store c.set_entry-made.ensures.err in
    rw (← c.self.view_is) (made_edited h c.self.invariant (after_entry (key_before_in w.ctx) c.args.op c.args.part c.args.key c.args.value w.store) c.set_entry-made.new.self.store c.set_entry-made.result made c.set_entry-made.new.self.ctx c.note.new.journal.items c.set_entry-made.ensures.ctx kept)

pub returns-clause-refused : goal.returns-clause-refused
returns-clause-refused c = rw (← c.self.view_is) (answered_for _ c.set_entry-made.result c.set_entry-made.ensures.refused)

pub returns-clause-tidy : goal.returns-clause-tidy
returns-clause-tidy c =
    let w = c.self.inside.world in
    rw (← c.self.view_is) (λ t. tidy_if w.store c.set_entry-made.new.self.store (after_entry (key_before_in w.ctx) c.args.op c.args.part c.args.key c.args.value w.store) c.set_entry-made.result c.set_entry-made.ensures.store c.set_entry-made.ensures.err t (λ t. t))
