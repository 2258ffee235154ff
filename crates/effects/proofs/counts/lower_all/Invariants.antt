use Rattle.std.proofs.Common.{drop}
use Rattle.effects.specs.Counts.{Counts, counts_in, Lowered}
use Rattle.effects.proofs.counts.lower_all.Given as goal

abbrev pub invariant-loop-value : goal.invariant-loop-value
invariant-loop-value l = (b : Counts) → Lowered (drop l.value-index l.values) (counts_in l.counts) b → Lowered l.values (counts_in l.initial.counts) b
