use Rattle.std.proofs.Common.{drop}
use Rattle.ir_event.specs.Heads.{all_operands}
use Rattle.effects.specs.Counts.{Counts, counts_in, Raised}
use Rattle.effects.specs.Found.{head_at, heads_by}
use Rattle.effects.proofs.tally.raise_each.Given as goal

abbrev pub invariant-loop-op : goal.invariant-loop-op
invariant-loop-op l =
    (b : Counts) → Raised (all_operands (heads_by (head_at l.store) (drop l.op-index l.ops))) (counts_in l.counts) b
    → Raised (all_operands (heads_by (head_at l.store) l.ops)) (counts_in l.initial.counts) b
