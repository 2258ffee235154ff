use Rattle.std.proofs.Common.{◌∙◌}
use Rattle.rewriter.specs.Held.{TransactionModel}
use Rattle.rewriter.proofs.MarkLaws.{mark_good, mark_open}
use Rattle.rewriter.proofs.transaction.Transaction.mark.Goals as goal

pub invariant_of-self-2 : goal.invariant_of-self-2
invariant_of-self-2 c =
    let w = c.self.inside.world in
    let h : TransactionModel = record { ctx = w.ctx; store = w.store; journal = c.self.inside.journal.items; marks = c.self.inside.marks.items } in
    mark_good c.args.counted h _ _ (c.len-length.ensures ∙ c.self.inside.journal.ok.0) c.in-Ok.ensures.items c.self.invariant

pub returns-clause-marked : goal.returns-clause-marked
returns-clause-marked c =
    let w = c.self.inside.world in
    let h : TransactionModel = record { ctx = w.ctx; store = w.store; journal = c.self.inside.journal.items; marks = c.self.inside.marks.items } in
    rw (← c.self.view_is) (mark_open c.args.counted h _ _ (c.len-length.ensures ∙ c.self.inside.journal.ok.0) c.in-Ok.ensures.items)
