use Rattle.std.proofs.Common.{◌≡◌, length}
use Rattle.mlir_work_c_read.specs.Entries.{at_key}
use Rattle.mlir_work_c_read.proofs.entries.find_key.Given as goal

abbrev pub invariant-entries : goal.invariant-entries
invariant-entries l = at_key l.key l.entries ≡ at_key l.key l.rest

abbrev pub decreases-entries : goal.decreases-entries
decreases-entries l = length l.rest
