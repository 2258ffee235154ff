use Rattle.std.proofs.Common.{length}
use Rattle.mlir_work_c_read.proofs.Refusing.{Walked}
use Rattle.mlir_work_c_read.proofs.dictionaries.entries_fault.Given as goal

abbrev pub invariant-entries : goal.invariant-entries
invariant-entries l = Walked l.fn.ctx l.fn.op l.fn.properties l.fn.entries l.rest l.count

abbrev pub decreases-entries : goal.decreases-entries
decreases-entries l = length l.rest
