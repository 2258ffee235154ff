use Rattle.std.proofs.Common.{◌≡◌, ◌++◌, take, drop, map}
use Rattle.mlir_work_c_read.specs.Bulk.{head_of}
use Rattle.mlir_work_c_read.specs.Filled.{over}
use Rattle.mlir_work_c_read.specs.Operations.{tree_in}
use Rattle.mlir_work_c_read.proofs.bulk.write_each_head.Given as goal

abbrev pub invariant-loop-head : goal.invariant-loop-head
invariant-loop-head l = take l.head-index l.head-items ++ over (map (head_of (tree_in l.fn.world)) l.rest) (drop l.head-index l.head-items) ≡ over (map (head_of (tree_in l.fn.world)) l.fn.ops) l.initial.head-items
