use Rattle.std.proofs.Common.{length}
use Rattle.mlir_work_c_read.specs.Rows.{rows_numbers}
use Rattle.mlir_work_c_read.proofs.Joining.{Continues}
use Rattle.mlir_work_c_read.proofs.rows.write_rows.Given as goal

abbrev pub invariant-rows : goal.invariant-rows
invariant-rows l = Continues (rows_numbers l.rest) (rows_numbers l.fn.rows) l.at l.into l.initial.into

abbrev pub decreases-rows : goal.decreases-rows
decreases-rows l = length l.rest
