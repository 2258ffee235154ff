use Rattle.std.proofs.Common.{◌≡◌, ◌++◌, length}
use Rattle.mlir_work_c_read.specs.Headers.{entries_of}
use Rattle.mlir_work_c_read.proofs.header.entries_of.Given as goal

abbrev pub invariant-entries : goal.invariant-entries
invariant-entries l = l.out.items ++ entries_of l.fn.properties l.rest ≡ entries_of l.fn.properties l.fn.entries

abbrev pub decreases-entries : goal.decreases-entries
decreases-entries l = length l.rest
