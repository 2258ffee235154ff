use Rattle.std.proofs.Common.{length}
use Rattle.mlir_work_transforms.proofs.Sweeping.{IsErasing}
use Rattle.mlir_work_transforms.proofs.sweep.erase_each.Given as goal

abbrev pub invariant-ops : goal.invariant-ops
invariant-ops g l = IsErasing g.L.Analysis.meaning l.initial.ops.items l.ops.items l.initial.bench l.bench

abbrev pub decreases-ops : goal.decreases-ops
decreases-ops g l = length l.ops.items
