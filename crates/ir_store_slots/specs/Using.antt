-- The uses of a value, in slots and in the tree.
use Rattle.std.specs.Prelude.{◌≡◌, ℕ, false, List, [], ◌∷◌, map, eqb, Bool, ◌&&◌, Option, Some, None}
use Rattle.std.specs.List.{list_any}
use Rattle.ir_store_lists.specs.Lists.{list_at}
use Rattle.ir_store_arena.specs.trees.declared.value.Value.{Value}
use Rattle.ir_store_arena.specs.trees.Tree.{Op}
use Rattle.ir_store_arena.specs.trees.Uses.{uses_of}
use Rattle.ir_store_slots.specs.Rows.{Row, row_at}
use Rattle.ir_store_slots.specs.Index.{cell_at}

abbrev pub same_use : ℕ × ℕ → ℕ × ℕ → Bool
same_use p q = eqb p.0 q.0 && eqb p.1 q.1

-- whether operand j of operation x is one of these uses
abbrev pub is_use : ℕ → ℕ → List (ℕ × ℕ) → Bool
is_use x j us = list_any (λ p. same_use p (x, j)) us

-- a list of uses without duplicates
abbrev pub EachOnce : List (ℕ × ℕ) → Type 0
EachOnce [] = Unit {0}
EachOnce (p ∷ ps) = (is_use p.0 p.1 ps ≡ false) × EachOnce ps

-- the uses of a value, each once, in any order
pub record AreUses (v : Value) (t : Op) (us : List (ℕ × ℕ)) : Type 0 where
  pub once : EachOnce us
  pub same : (x j : ℕ) → is_use x j us ≡ is_use x j (uses_of v t)

-- the operation and the operand of a node
abbrev pub use_in : List Row → List (ℕ × ℕ) → ℕ → ℕ × ℕ
use_in slots cells u = ((row_at slots (cell_at cells u).0).head.id, (cell_at cells u).1)

-- the uses in the list of a value's head
abbrev pub uses_at : List Row → List (ℕ × ℕ) → List (List ℕ) → Option ℕ → List (ℕ × ℕ)
uses_at slots cells lists None = []
uses_at slots cells lists (Some h) = map (use_in slots cells) (list_at lists h)
