use Rattle.std.proofs.Common.{length}
use Rattle.patterns_lowering.proofs.Freely.{CarryingFree}
use Rattle.patterns_lowering.proofs.apply_unchecked.carry_all.Given as goal

abbrev pub invariant-edits : goal.invariant-edits
invariant-edits g l = CarryingFree g.L.Analysis.meaning l.fn.edits l.rest l.initial.bench l.bench

abbrev pub decreases-edits : goal.decreases-edits
decreases-edits g l = length l.rest
