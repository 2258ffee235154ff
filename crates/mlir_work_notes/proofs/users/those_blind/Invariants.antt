use Rattle.std.proofs.Common.{◌≡◌, ◌++◌, length, filter}
use Rattle.ir_event.specs.trees.Meaning.{isolated_in}
use Rattle.mlir_work_notes.specs.Standing.{is_blind}
use Rattle.mlir_work_notes.proofs.users.those_blind.Given as goal

abbrev pub invariant-ops : goal.invariant-ops
invariant-ops l =
    l.out.items ++ filter (is_blind (isolated_in l.world.ctx) l.fn.old l.fn.new l.world.store.module_of.tree) l.rest
    ≡ filter (is_blind (isolated_in l.world.ctx) l.fn.old l.fn.new l.world.store.module_of.tree) l.fn.ops

abbrev pub decreases-ops : goal.decreases-ops
decreases-ops l = length l.rest
