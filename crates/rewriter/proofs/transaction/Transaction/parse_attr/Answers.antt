use Rattle.rewriter_machine.specs.Journals.{IsStoreOf}
use Rattle.rewriter.specs.Held.{TransactionModel}
use Rattle.rewriter.proofs.Outcomes.{grow_done, grow_good}
use Rattle.rewriter.proofs.transaction.Transaction.parse_attr.Goals as goal

pub invariant_of-self : goal.invariant_of-self
invariant_of-self c =
    let w = c.self.inside.world in
    let h : TransactionModel = record { ctx = w.ctx; store = w.store; journal = c.self.inside.journal.items; marks = c.self.inside.marks.items } in
    let is : IsStoreOf w.ctx w.store = record { context = c.sound.ensures; sound = w.sound; wellformed = w.wellformed; held = w.held } in
    grow_good h c.self.invariant is c.parse_attr-read.new.world.ctx c.parse_attr-read.new.world.store c.sound-2.ensures c.parse_attr-read.ensures.grown.grows c.parse_attr-read.ensures.grown.store

pub returns-clause-grown : goal.returns-clause-grown
returns-clause-grown c =
    let w = c.self.inside.world in
    let h : TransactionModel = record { ctx = w.ctx; store = w.store; journal = c.self.inside.journal.items; marks = c.self.inside.marks.items } in
    let is : IsStoreOf w.ctx w.store = record { context = c.sound.ensures; sound = w.sound; wellformed = w.wellformed; held = w.held } in
    rw (← c.self.view_is) (grow_done h c.self.invariant is c.parse_attr-read.new.world.ctx c.parse_attr-read.new.world.store c.sound-2.ensures c.parse_attr-read.ensures.grown.grows c.parse_attr-read.ensures.grown.store c.parse_attr-read.ensures.grown.same)
