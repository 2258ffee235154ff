use Rattle.std.proofs.Common.{◌≡◌, rules}
use Rattle.ir_event.specs.store.Calls.{after_take}
use Rattle.rewriter_machine.specs.Journals.{IsStoreOf}
use Rattle.rewriter.specs.Held.{TransactionModel}
use Rattle.rewriter.specs.Moves.{noted_as}
use Rattle.rewriter.proofs.Following.{tidy_take}
use Rattle.rewriter.proofs.Made.{Made, answered_exactly, take_made, made_edited, made_good, tidy_if}
use Rattle.rewriter.proofs.transaction.Transaction.take.Goals as goal

pub invariant_of-self-2 : goal.invariant_of-self-2
invariant_of-self-2 c =
    let w = c.self.inside.world in
    let h : TransactionModel = record { ctx = w.ctx; store = w.store; journal = c.self.inside.journal.items; marks = c.self.inside.marks.items } in
    let is : IsStoreOf w.ctx w.store = record { context = c.sound.ensures; sound = w.sound; wellformed = w.wellformed; held = w.held } in
    let kept : c.note.new.journal.items ≡ noted_as h.marks h.journal c.take-made.result = search rules in
    let made : Made h (after_take c.args.op w.store) c.take-made.new.self.store c.take-made.result = take_made h c.self.invariant is c.take-made.new.self.ctx c.take-made.ensures.ctx c.take-made.new.self.store c.args.op c.take-made.result c.take-made.ensures.step c.take-made.ensures.shown c.take-made.ensures.store c.take-made.ensures.err in
    made_good h c.self.invariant (after_take c.args.op w.store) c.take-made.new.self.store c.take-made.result made c.take-made.new.self.ctx c.note.new.journal.items c.take-made.ensures.ctx kept

pub returns-clause-ok : goal.returns-clause-ok
returns-clause-ok c =
    let w = c.self.inside.world in
    let h : TransactionModel = record { ctx = w.ctx; store = w.store; journal = c.self.inside.journal.items; marks = c.self.inside.marks.items } in
    let is : IsStoreOf w.ctx w.store = record { context = c.sound.ensures; sound = w.sound; wellformed = w.wellformed; held = w.held } in
    let kept : c.note.new.journal.items ≡ noted_as h.marks h.journal c.take-made.result = search rules in
    let made : Made h (after_take c.args.op w.store) c.take-made.new.self.store c.take-made.result = take_made h c.self.invariant is c.take-made.new.self.ctx c.take-made.ensures.ctx c.take-made.new.self.store c.args.op c.take-made.result c.take-made.ensures.step c.take-made.ensures.shown c.take-made.ensures.store c.take-made.ensures.err in
    rw (← c.self.view_is) (made_edited h c.self.invariant (after_take c.args.op w.store) c.take-made.new.self.store c.take-made.result made c.take-made.new.self.ctx c.note.new.journal.items c.take-made.ensures.ctx kept)

pub returns-clause-refused : goal.returns-clause-refused
returns-clause-refused c = rw (← c.self.view_is) (answered_exactly _ _ _ c.take-made.ensures.refused)

pub returns-clause-tidy : goal.returns-clause-tidy
returns-clause-tidy c =
    let w = c.self.inside.world in
    let is : IsStoreOf w.ctx w.store = record { context = c.sound.ensures; sound = w.sound; wellformed = w.wellformed; held = w.held } in
    rw (← c.self.view_is) (λ t. tidy_if w.store c.take-made.new.self.store (after_take c.args.op w.store) c.take-made.result c.take-made.ensures.store c.take-made.ensures.err t (tidy_take w.ctx c.args.op w.store is))
