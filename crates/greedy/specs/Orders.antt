-- The order of operations, before and after a rewrite.
use Rattle.std.specs.Prelude.{◌≡◌, ◌<◌, All, ℕ, true, false}
use Rattle.ir_event.specs.trees.Ids.{ids, find, has_id, HasDistinctIds}
use Rattle.ir_event.specs.trees.Tree.{OpOf, head}
use Rattle.ir_event.specs.tree_laws.Reads.{is_within, precedes}
use Rattle.ir_event.specs.Modules.{Module}
use Rattle.patterns_base.specs.Rewrites.{none, becomes}
use Rattle.patterns_base.specs.Canonicalization.{highest_priority}

-- the operations before x and those after everything inside x stay, and the remaining operations keep their order
pub record Orderly (x : ℕ) (m n : Module) : Type 0 where
  pub stays : (y : ℕ) → precedes y x m.tree ≡ true → has_id y n.tree ≡ true
  pub outside : (y : ℕ) → has_id y m.tree ≡ true → is_within y (find x m.tree) ≡ false → has_id y n.tree ≡ true
  pub order : (a b : ℕ) → has_id a m.tree ≡ true → has_id b m.tree ≡ true → has_id a n.tree ≡ true
      → has_id b n.tree ≡ true → precedes a b n.tree ≡ precedes a b m.tree

-- in a module whose ids are distinct and less than the next free id, the highest-priority rule of canonicalization
-- that applies at an operation is orderly there
abbrev pub RewritesAreOrderly : Type 0
RewritesAreOrderly = (m : Module) → HasDistinctIds m.tree → All (λ y. y < m.next) (ids m.tree) → (x : ℕ) (n : Module)
    → highest_priority m x ≡ becomes n → Orderly x m n

-- no rule applies at the root
abbrev pub RootHasNone : Type 0
RootHasNone = (m : Module) → HasDistinctIds m.tree → highest_priority m (head m.tree).id ≡ none

-- operation y comes after operation x and everything inside x
abbrev pub IsBeyond : {N T A : Type 0} → ℕ → ℕ → OpOf N T A → Type 0
IsBeyond x y t = (z : ℕ) → is_within z (find x t) ≡ true → precedes z y t ≡ true
