use Rattle.std.proofs.Common.{◌-◌, ◌≡◌, ◌<◌, ◌≤◌, ℕ, []}
use Rattle.ir_event.specs.trees.Uses.{uses_of}
use Rattle.ir_event.specs.trees.declared.value.Value.TheVariants.{Result}
use Rattle.effects.proofs.dead_op.is_unused.Given as goal

abbrev pub invariant-results : goal.invariant-results
invariant-results l = ((k : ℕ) → k < l.number → uses_of (Result l.op k) l.world.store.module_of.tree ≡ []) × (l.number ≤ l.count)

abbrev pub decreases-results : goal.decreases-results
decreases-results l = l.count - l.number
