use Rattle.std.proofs.Common.{◌≡◌, ◌++◌, length, map}
use Rattle.mlir_work_notes.specs.Notes.{Operation, spaced_notes}
use Rattle.mlir_work_notes.proofs.write_notes.write_ops.Given as goal

abbrev pub invariant-ops : goal.invariant-ops
invariant-ops l = l.out.items ++ spaced_notes (map Operation l.rest) ≡ l.initial.out.items ++ spaced_notes (map Operation l.fn.ops)

abbrev pub decreases-ops : goal.decreases-ops
decreases-ops l = length l.rest
