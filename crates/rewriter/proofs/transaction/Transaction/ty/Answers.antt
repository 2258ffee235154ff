use Rattle.rewriter_machine.specs.Journals.{IsStoreOf}
use Rattle.rewriter.specs.Held.{TransactionModel}
use Rattle.rewriter.proofs.Outcomes.{grow_done, grow_good}
use Rattle.rewriter.proofs.transaction.Transaction.ty.Goals as goal

pub invariant_of-self : goal.invariant_of-self
invariant_of-self c =
    let w = c.self.inside.world in
    let h : TransactionModel = record { ctx = w.ctx; store = w.store; journal = c.self.inside.journal.items; marks = c.self.inside.marks.items } in
    let is : IsStoreOf w.ctx w.store = record { context = c.sound.ensures; sound = w.sound; wellformed = w.wellformed; held = w.held } in
    grow_good h c.self.invariant is c.ty-id.new.self.ctx c.ty-id.new.self.store c.sound-2.ensures c.ty-id.ensures.grows c.ty-id.ensures.store

pub returns-clause-grows : goal.returns-clause-grows
returns-clause-grows c =
    let w = c.self.inside.world in
    let h : TransactionModel = record { ctx = w.ctx; store = w.store; journal = c.self.inside.journal.items; marks = c.self.inside.marks.items } in
    let is : IsStoreOf w.ctx w.store = record { context = c.sound.ensures; sound = w.sound; wellformed = w.wellformed; held = w.held } in
    rw (← c.self.view_is) (grow_done h c.self.invariant is c.ty-id.new.self.ctx c.ty-id.new.self.store c.sound-2.ensures c.ty-id.ensures.grows c.ty-id.ensures.store c.ty-id.ensures.module)
