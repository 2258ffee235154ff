-- The invariants of an IR state, and that there is at most one proof of them.
use Rattle.std.specs.Prelude.{◌≡◌, ℕ, Bool, Some}
use Rattle.std.proofs.Props.{props}
use Rattle.std.specs.Coded.{Π_prop}
use Rattle.std.specs.List.{IsDistinct-prop}
use Rattle.std.specs.Ordering.{nat_cmp}
use Rattle.std.specs.FinMap as map
use Rattle.op_registry.specs.types.Things.{ContextModel}
use Rattle.ir_store.specs.trees.Tree.{Op}
use Rattle.ir_store.specs.trees.WellFormed.{ModuleOf, IsWellFormed}
use Rattle.ir_store.specs.trees.Meaning.{IsSoundIn}

-- the held operations are sound in the context
abbrev pub HeldIsSound : ContextModel → map.FinMap nat_cmp Op → Type 0
HeldIsSound c held = (x : ℕ) (o : Op) → map.get held x ≡ Some o → IsSoundIn c o

pub sound_prop : (c : ContextModel) (t : Op) → IsProp (IsSoundIn c t)
sound_prop c t = hlevel props

pub wellformed_prop : {N T A : Type 0} (isolated : N → Bool) (m : ModuleOf N T A) → IsProp (IsWellFormed isolated m)
wellformed_prop isolated m = hlevel (props, IsDistinct-prop)

pub held_prop : (c : ContextModel) (held : map.FinMap nat_cmp Op) → IsProp (HeldIsSound c held)
held_prop c held = Π_prop (λ x. Π_prop (λ o. Π_prop (λ e. sound_prop c o)))
