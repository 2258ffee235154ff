use Rattle.std.proofs.Common.{◌≡◌}
use Rattle.mlir_work_notes.specs.Standing.{is_inside, is_within_ancestors}
use Rattle.mlir_work_notes.proofs.existing_ops.is_inside.Given as goal

abbrev pub invariant-around : goal.invariant-around
invariant-around l = is_within_ancestors l.left l.fn.op l.store.module_of.tree l.at ≡ is_inside l.fn.op l.store.module_of.tree l.fn.inner

abbrev pub decreases-around : goal.decreases-around
decreases-around l = l.left
