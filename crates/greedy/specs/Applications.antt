-- The driver's requirements on a pattern set.
use Rattle.std.specs.Prelude.{◌≡◌, ◌⊎◌, ◌↔◌, ◌<◌, All, ℕ, None}
use Rattle.ir_event.specs.types.declared.refusal.Refusal.{Refusal}
use Rattle.ir_event.specs.types.declared.refusal.Refusal.TheVariants.{Full, IdsExhausted}
use Rattle.ir_event.specs.trees.Ids.{ids, HasDistinctIds}
use Rattle.ir_event.specs.trees.Tree.{head}
use Rattle.ir_event.specs.Modules.{Module}
use Rattle.patterns_base.specs.Rewrites.{none, refused, becomes}
use Rattle.greedy.specs.Listing.{Stayed}
use Rattle.greedy.specs.Orders.{Orderly}
use Rattle.greedy.specs.PatternSet.{PatternSetModel}

-- if the set makes no rewrite at an unlisted operation before, it makes none after
abbrev pub StaysAway : PatternSetModel → Type 0
StaysAway a = (m n : Module) (x : ℕ) → Stayed m n x → a.comes m x ≡ none → a.comes n x ≡ none

-- the set makes no rewrite exactly if no entry applies
abbrev pub IsApplied : PatternSetModel → Type 0
IsApplied a = (m : Module) (x : ℕ) → (a.comes m x ≡ none) ↔ (a.fires m x ≡ None)

pub record IsLawful (a : PatternSetModel) : Type 0 where
  pub away : StaysAway a
  -- a rewrite keeps the operations before its operation, and the remaining operations keep their order
  pub orderly : (m : Module) → HasDistinctIds m.tree → All (λ y. y < m.next) (ids m.tree) → (x : ℕ) (n : Module)
      → a.comes m x ≡ becomes n → Orderly x m n
  -- the set makes no rewrite at the root
  pub root : (m : Module) → HasDistinctIds m.tree → a.comes m (head m.tree).id ≡ none
  -- a rewrite is refused only for the number of operations or ids
  pub counts : (m : Module) (x : ℕ) (e : Refusal) → a.comes m x ≡ refused e → (e ≡ Full) ⊎ (e ≡ IdsExhausted)
  pub applied : IsApplied a
