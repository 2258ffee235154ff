use Rattle.std.proofs.Common.{◌≡◌, ◌++◌, take, drop}
use Rattle.mlir_work_c_read.specs.Filled.{over}
use Rattle.mlir_work_c_read.specs.Rows.{cells_numbers}
use Rattle.mlir_work_c_read.proofs.rows.write_each_cell.Given as goal

abbrev pub invariant-loop-numbers : goal.invariant-loop-numbers
invariant-loop-numbers l = take l.numbers-index l.numbers-items ++ over (cells_numbers l.rest) (drop l.numbers-index l.numbers-items) ≡ over (cells_numbers l.fn.cells) l.initial.numbers-items
