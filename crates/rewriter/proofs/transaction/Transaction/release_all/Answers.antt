use Rattle.rewriter.specs.Held.{TransactionModel}
use Rattle.rewriter.proofs.Outcomes.{settle_done, settle_good, settle_none, settle_alone}
use Rattle.rewriter.proofs.transaction.Transaction.release_all.Goals as goal

pub invariant_of-self : goal.invariant_of-self
invariant_of-self c =
    let w = c.self.inside.world in
    let h : TransactionModel = record { ctx = w.ctx; store = w.store; journal = c.self.inside.journal.items; marks = c.self.inside.marks.items } in
    settle_good h c.self.invariant c.release.new.world.ctx c.release.new.world.store c.release.ensures.ctx c.release.ensures.store (rw (← c.self.view_is) at c.requires)

pub returns-clause-tidied : goal.returns-clause-tidied
returns-clause-tidied c =
    let w = c.self.inside.world in
    let h : TransactionModel = record { ctx = w.ctx; store = w.store; journal = c.self.inside.journal.items; marks = c.self.inside.marks.items } in
    rw (← c.self.view_is) (settle_done h c.self.invariant c.release.new.world.ctx c.release.new.world.store c.release.ensures.ctx c.release.ensures.store (rw (← c.self.view_is) at c.requires))

pub returns-clause-none : goal.returns-clause-none
returns-clause-none c =
    let w = c.self.inside.world in
    let h : TransactionModel = record { ctx = w.ctx; store = w.store; journal = c.self.inside.journal.items; marks = c.self.inside.marks.items } in
    settle_none h c.self.invariant c.release.new.world.ctx c.release.new.world.store c.release.ensures.ctx c.release.ensures.store (rw (← c.self.view_is) at c.requires)

pub returns-clause-alone : goal.returns-clause-alone
returns-clause-alone c =
    let w = c.self.inside.world in
    let h : TransactionModel = record { ctx = w.ctx; store = w.store; journal = c.self.inside.journal.items; marks = c.self.inside.marks.items } in
    settle_alone h c.self.invariant c.release.new.world.ctx c.release.new.world.store c.release.ensures.ctx c.release.ensures.store (rw (← c.self.view_is) at c.requires)
