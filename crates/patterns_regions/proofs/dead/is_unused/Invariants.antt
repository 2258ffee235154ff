use Rattle.std.proofs.Common.{◌≡◌, ℕ, ◌<◌, ◌-◌, []}
use Rattle.ir_event.specs.trees.declared.value.Value.TheVariants.{Result}
use Rattle.ir_event.specs.trees.Uses.{uses_of}
use Rattle.patterns_regions.proofs.dead.is_unused.Given as goal

abbrev pub invariant-results : goal.invariant-results
invariant-results l = (k : ℕ) → k < l.number → uses_of (Result l.op k) l.world.store.module_of.tree ≡ []

abbrev pub decreases-results : goal.decreases-results
decreases-results l = l.count - l.number
