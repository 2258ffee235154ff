use Rattle.rewriter.proofs.MarkLaws.{good_closed, is_closed}
use Rattle.rewriter.proofs.transaction.Transaction.close.Goals as goal

pub invariant_of-self : goal.invariant_of-self
invariant_of-self c = rw (c.keep.ensures, c.deref.ensures.value) (good_closed _ _ _ c.in-Some.ensures.items c.self.invariant)

pub returns : goal.returns
returns c = rw (← c.self.view_is, c.keep.ensures, c.deref.ensures.value) (is_closed _ _ _ c.in-Some.ensures.items)
