use Rattle.std.proofs.Common.{drop}
use Rattle.effects.specs.Counts.{Counts, counts_in, kept_by, AllEntered}
use Rattle.effects.specs.Found.{head_at, heads_by}
use Rattle.effects.proofs.tally.enter_all.Given as goal

abbrev pub invariant-loop-op : goal.invariant-loop-op
invariant-loop-op l =
    (b : Counts) → AllEntered (kept_by l.world.ctx) (heads_by (head_at l.world.store) (drop l.op-index l.ops)) (counts_in l.counts) b
    → AllEntered (kept_by l.world.ctx) (heads_by (head_at l.world.store) l.ops) (counts_in l.initial.counts) b
