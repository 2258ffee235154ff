use Rattle.std.proofs.Common.{drop}
use Rattle.effects.specs.Counts.{Counts, counts_in, Raised}
use Rattle.effects.proofs.counts.raise_all.Given as goal

abbrev pub invariant-loop-value : goal.invariant-loop-value
invariant-loop-value l = (b : Counts) → Raised (drop l.value-index l.values) (counts_in l.counts) b → Raised l.values (counts_in l.initial.counts) b
