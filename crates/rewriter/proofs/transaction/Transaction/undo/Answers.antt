use Rattle.rewriter_machine.specs.Journals.{IsStoreOf}
use Rattle.rewriter.specs.Held.{TransactionModel}
use Rattle.rewriter.proofs.Outcomes.{came_from, undo_done, undo_good}
use Rattle.rewriter.proofs.transaction.Transaction.undo.Goals as goal

pub undo-requires : goal.undo-requires
undo-requires c =
    let w = c.self.inside.world in
    let h : TransactionModel = record { ctx = w.ctx; store = w.store; journal = c.self.inside.journal.items; marks = c.self.inside.marks.items } in
    let is : IsStoreOf w.ctx w.store = record { context = c.sound.ensures; sound = w.sound; wellformed = w.wellformed; held = w.held } in
    (_, came_from h c.self.invariant is _ _ c.in-Some.ensures.items (rw (← c.self.view_is) at c.requires.free))

pub invariant_of-self : goal.invariant_of-self
invariant_of-self c =
    let w = c.self.inside.world in
    let h : TransactionModel = record { ctx = w.ctx; store = w.store; journal = c.self.inside.journal.items; marks = c.self.inside.marks.items } in
    let is : IsStoreOf w.ctx w.store = record { context = c.sound.ensures; sound = w.sound; wellformed = w.wellformed; held = w.held } in
    undo_good h c.self.invariant is _ _ c.in-Some.ensures.items (rw (← c.self.view_is) at c.requires.free) c.undo.new.self.ctx c.undo.new.self.store c.undo.ensures.ctx c.undo.ensures.store

pub returns : goal.returns
returns c =
    let w = c.self.inside.world in
    let h : TransactionModel = record { ctx = w.ctx; store = w.store; journal = c.self.inside.journal.items; marks = c.self.inside.marks.items } in
    let is : IsStoreOf w.ctx w.store = record { context = c.sound.ensures; sound = w.sound; wellformed = w.wellformed; held = w.held } in
    rw (← c.self.view_is) (undo_done h c.self.invariant is _ _ c.in-Some.ensures.items (rw (← c.self.view_is) at c.requires.free) c.undo.new.self.ctx c.undo.new.self.store c.undo.ensures.ctx c.undo.ensures.store c.inverse.result c.inverse.ensures c.undo.ensures.step c.undo.ensures.shown)
