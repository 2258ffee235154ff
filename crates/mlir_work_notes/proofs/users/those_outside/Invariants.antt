use Rattle.std.proofs.Common.{◌≡◌, ◌++◌, length, filter}
use Rattle.mlir_work_notes.specs.Standing.{uses_from_outside}
use Rattle.mlir_work_notes.proofs.users.those_outside.Given as goal

abbrev pub invariant-ops : goal.invariant-ops
invariant-ops l =
    l.out.items ++ filter (uses_from_outside l.fn.op l.world.store.module_of.tree) l.rest
    ≡ filter (uses_from_outside l.fn.op l.world.store.module_of.tree) l.fn.ops

abbrev pub decreases-ops : goal.decreases-ops
decreases-ops l = length l.rest
