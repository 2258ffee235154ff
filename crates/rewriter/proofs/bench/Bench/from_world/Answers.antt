use Rattle.std.proofs.Common.{ap}
use Rattle.rewriter.specs.Held.{TransactionModel}
use Rattle.rewriter.proofs.Rolled.{settled_begun}
use Rattle.rewriter.proofs.bench.Bench.from_world.Goals as goal

pub invariant_of-result : goal.invariant_of-result
invariant_of-result g c = settled_begun _ _ (ap (λ (h : TransactionModel). h.marks) c.new-transaction.ensures) c.settle.ensures
