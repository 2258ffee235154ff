use Rattle.std.proofs.Common.{◌≤◌, length}
use Rattle.mlir_work_c_read.specs.Operations.{tree_in}
use Rattle.mlir_work_c_read.specs.Records.{AreRecords}
use Rattle.mlir_work_c_read.proofs.Recording.{Ends}
use Rattle.mlir_work_c_read.proofs.records.write_records.Given as goal

abbrev pub invariant-ops : goal.invariant-ops
invariant-ops l =
    (l.at ≤ length l.into) × Ends (AreRecords (tree_in l.fn.world) l.fn.ops) (AreRecords (tree_in l.fn.world) l.rest) l.at l.into l.initial.into

abbrev pub decreases-ops : goal.decreases-ops
decreases-ops l = length l.rest
