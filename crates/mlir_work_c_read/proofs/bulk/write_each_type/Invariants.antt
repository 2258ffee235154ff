use Rattle.std.proofs.Common.{◌≡◌, ◌++◌, take, drop, map}
use Rattle.mlir_work_c_read.specs.Bulk.{type_number}
use Rattle.mlir_work_c_read.specs.Filled.{over}
use Rattle.mlir_work_c_read.specs.Operations.{tree_in}
use Rattle.mlir_work_c_read.proofs.bulk.write_each_type.Given as goal

abbrev pub invariant-loop-number : goal.invariant-loop-number
invariant-loop-number l = take l.number-index l.number-items ++ over (map (type_number (tree_in l.fn.world)) l.rest) (drop l.number-index l.number-items) ≡ over (map (type_number (tree_in l.fn.world)) l.fn.values) l.initial.number-items
