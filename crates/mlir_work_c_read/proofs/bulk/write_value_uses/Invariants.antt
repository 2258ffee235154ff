use Rattle.std.proofs.Common.{◌≡◌, ◌+◌, ◌≤◌, length}
use Rattle.mlir_work_c_read.specs.Operations.{tree_in}
use Rattle.mlir_work_c_read.proofs.Using.{Ends}
use Rattle.mlir_work_c_read.proofs.bulk.write_value_uses.Given as goal

abbrev pub invariant-values : goal.invariant-values
invariant-values l =
    (l.index + length l.rest ≡ length l.fn.values)
    × (l.at ≤ length l.into)
    × Ends (tree_in l.fn.world) l.fn.values l.index l.rest l.at l.into l.initial.into

abbrev pub decreases-values : goal.decreases-values
decreases-values l = length l.rest
