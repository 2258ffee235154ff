use Rattle.std.proofs.Common.{arith}
use Rattle.rewriter_machine.specs.Journals.{IsStoreOf}
use Rattle.rewriter.specs.Held.{TransactionModel}
use Rattle.rewriter.proofs.Outcomes.{release_done, release_good}
use Rattle.rewriter.proofs.Released.{some_given}
use Rattle.rewriter.proofs.transaction.Transaction.release_unused_ids.Goals as goal

pub invariant_of-self : goal.invariant_of-self
invariant_of-self c =
    let w = c.self.inside.world in
    let h : TransactionModel = record { ctx = w.ctx; store = w.store; journal = c.self.inside.journal.items; marks = c.self.inside.marks.items } in
    let is : IsStoreOf w.ctx w.store = record { context = c.sound.ensures; sound = w.sound; wellformed = w.wellformed; held = w.held } in
    let n = c.next_id-next.ensures in
    let some = some_given w.ctx w.store.module_of w.wellformed in
    release_good h c.self.invariant is c.next_id-next.result c.release.new.world.ctx c.release.new.world.store c.release.ensures.ctx c.release.ensures.store (omega (arith, n)) (omega (arith, n, some))

pub returns : goal.returns
returns c =
    let w = c.self.inside.world in
    let h : TransactionModel = record { ctx = w.ctx; store = w.store; journal = c.self.inside.journal.items; marks = c.self.inside.marks.items } in
    let is : IsStoreOf w.ctx w.store = record { context = c.sound.ensures; sound = w.sound; wellformed = w.wellformed; held = w.held } in
    let n = c.next_id-next.ensures in
    let some = some_given w.ctx w.store.module_of w.wellformed in
    let done = release_done h c.self.invariant is c.next_id-next.result c.release.new.world.ctx c.release.new.world.store c.release.ensures.ctx c.release.ensures.store (omega (arith, n)) (omega (arith, n)) (omega (arith, n, some)) in
    rw (← c.self.view_is) (rw n at done)
