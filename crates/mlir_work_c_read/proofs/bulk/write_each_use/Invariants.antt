use Rattle.std.proofs.Common.{◌≡◌, ◌++◌, take, drop, map}
use Rattle.mlir_work_c_read.specs.Bulk.{use_of}
use Rattle.mlir_work_c_read.specs.Filled.{over}
use Rattle.mlir_work_c_read.proofs.bulk.write_each_use.Given as goal

abbrev pub invariant-loop-entry : goal.invariant-loop-entry
invariant-loop-entry l = take l.entry-index l.entry-items ++ over (map (use_of l.fn.index) l.rest) (drop l.entry-index l.entry-items) ≡ over (map (use_of l.fn.index) l.fn.uses) l.initial.entry-items
