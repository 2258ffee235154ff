-- Operations whose effects are only allocations and reads.
use Rattle.std.specs.Prelude.{◌≡◌, ℕ, ◌<◌, [], Bool, true, false, Option, Some, None}
use Rattle.ir_event.specs.trees.Tree.{OpOf, OpsOf, RegionsOf}
use Rattle.ir_event.specs.trees.Ids.{find}
use Rattle.ir_event.specs.trees.Uses.{uses_of}
use Rattle.ir_event.specs.trees.declared.value.Value.TheVariants.{Result}
use Rattle.op_registry.specs.declared.own.Own.{Own}
use Rattle.effects.specs.Dead.{may_go}
use Rattle.effects.specs.Effects.{effects, regions_effects, ops_effects}

-- whether an operation's effects are only allocations and reads, if there is an operation
abbrev pub idle_in : {N T A : Type 0} → (N → Own) → Option (OpOf N T A) → Bool
idle_in own None = true
idle_in own (Some o) = may_go (effects own o)

-- the same for operation x of a tree
abbrev pub idle_at : {N T A : Type 0} → (N → Own) → ℕ → OpOf N T A → Bool
idle_at own x t = idle_in own (find x t)

-- the same for a list of operations
abbrev pub idle_ops : {N T A : Type 0} → (N → Own) → OpsOf N T A → Bool
idle_ops own os = may_go (ops_effects own os)

-- the same for regions
abbrev pub idle_regions : {N T A : Type 0} → (N → Own) → RegionsOf N T A → Bool
idle_regions own rs = may_go (regions_effects own rs)

-- the answer `true` says that the first results of x have no uses, and `false` that one of them has a use
abbrev pub AreUnused : {N T A : Type 0} → ℕ → ℕ → OpOf N T A → Bool → Type 0
AreUnused x count t true = (k : ℕ) → k < count → uses_of (Result x k) t ≡ []
AreUnused x count t false = (k : ℕ) × (uses_of (Result x k) t ≡ [] → ⊥)
