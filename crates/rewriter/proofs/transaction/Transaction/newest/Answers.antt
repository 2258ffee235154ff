use Rattle.std.proofs.Common.{false}
use Rattle.rewriter.proofs.MarkLaws.{newest, last_split}
use Rattle.rewriter.proofs.transaction.Transaction.newest.Goals as goal

pub returns-in-len1-up-clause-some : goal.returns-in-len1-up-clause-some
returns-in-len1-up-clause-some c =
    let split = rw c.as_slice.ensures.value at (last_split (record { length = 0; counted = false }) c.as_slice.result.now c.in-len1-up.len_at_least) in
    rw (← c.self.view_is, c.as_slice.ensures.value) (newest _ _ _ split c.self.invariant)
