use Rattle.std.proofs.Common.{◌≡◌, ◌++◌, take, drop, map}
use Rattle.mlir_work_c_read.specs.Filled.{over}
use Rattle.mlir_work_c_read.specs.Uses.{use_numbers}
use Rattle.mlir_work_c_read.proofs.uses.write_all.Given as goal

abbrev pub invariant-loop-entry : goal.invariant-loop-entry
invariant-loop-entry l = take l.entry-index l.entry-items ++ over (map use_numbers l.rest) (drop l.entry-index l.entry-items) ≡ over (map use_numbers l.fn.uses) l.initial.entry-items
