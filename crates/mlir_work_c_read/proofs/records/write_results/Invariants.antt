use Rattle.std.proofs.Common.{◌≡◌, ◌+◌, length}
use Rattle.mlir_work_c_read.specs.Records.{result_items}
use Rattle.mlir_work_c_read.proofs.Joining.{ContinuesFrom}
use Rattle.mlir_work_c_read.proofs.records.write_results.Given as goal

abbrev pub invariant-results : goal.invariant-results
invariant-results l =
    (l.index + length l.rest ≡ length l.fn.types)
    × ContinuesFrom (result_items l.fn.all l.index l.rest) (result_items l.fn.all 0 l.fn.types) l.fn.at l.place l.into l.initial.into

abbrev pub decreases-results : goal.decreases-results
decreases-results l = length l.rest
