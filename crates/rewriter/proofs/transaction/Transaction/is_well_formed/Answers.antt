use Rattle.rewriter.proofs.transaction.Transaction.is_well_formed.Goals as goal

pub returns : goal.returns
returns c = rw (← c.self.view_is) c.self.invariant
