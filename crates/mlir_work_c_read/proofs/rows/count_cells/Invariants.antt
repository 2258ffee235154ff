use Rattle.std.proofs.Common.{◌≡◌, ◌+◌, ◌≤◌, length}
use Rattle.std.specs.Prelude.{min}
use Rattle.mlir_work_c_read.specs.Rows.{rows_numbers}
use Rattle.mlir_work_c_read.proofs.rows.count_cells.Given as goal

abbrev pub invariant-rows : goal.invariant-rows
invariant-rows l =
    (min (l.count + length (rows_numbers l.rest)) 18446744073709551615 ≡ min (length (rows_numbers l.fn.rows)) 18446744073709551615)
    × (l.count ≤ 18446744073709551615)

abbrev pub decreases-rows : goal.decreases-rows
decreases-rows l = length l.rest
