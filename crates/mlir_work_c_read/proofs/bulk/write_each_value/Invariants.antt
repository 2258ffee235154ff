use Rattle.std.proofs.Common.{◌≡◌, ◌++◌, take, drop, map}
use Rattle.mlir_work_c_read.specs.Filled.{over}
use Rattle.mlir_work_c_read.specs.Numbers.{numbers_of}
use Rattle.mlir_work_c_read.proofs.bulk.write_each_value.Given as goal

abbrev pub invariant-loop-numbers : goal.invariant-loop-numbers
invariant-loop-numbers l = take l.numbers-index l.numbers-items ++ over (map numbers_of l.rest) (drop l.numbers-index l.numbers-items) ≡ over (map numbers_of l.fn.values) l.initial.numbers-items
