use Rattle.std.proofs.Common.{length}
use Rattle.patterns_lowering.proofs.Carrying.{Carrying}
use Rattle.patterns_lowering.proofs.apply_edits.carry.Given as goal

abbrev pub invariant-edits : goal.invariant-edits
invariant-edits g l = Carrying g.L.Analysis.meaning l.fn.edits l.rest l.initial.bench l.bench

abbrev pub decreases-edits : goal.decreases-edits
decreases-edits g l = length l.rest
