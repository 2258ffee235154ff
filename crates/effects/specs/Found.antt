-- The operations of a store, by their ids.
use Rattle.std.specs.Prelude.{ℕ, List, [], ◌∷◌, Option, Some, None, option_map}
use Rattle.ir_event.specs.trees.Tree.{Head}
use Rattle.ir_event.specs.tree_laws.Reads.{parent_of}
use Rattle.ir_event.specs.store.Nodes.{Node, node_of}
use Rattle.ir_event.specs.store.Stored.{Stored, known}
use Rattle.op_registry.specs.declared.own.Own.{Own}
use Rattle.effects.specs.Points.{Point}

-- the head of an operation that the store knows
abbrev pub head_at : Stored → ℕ → Option Head
head_at s x = option_map (λ (n : Node). n.head) (option_map node_of (known x s))

-- the heads, with the head of operation x prepended, if there is one
abbrev pub with_head : ℕ → Option Head → List Head → List Head
with_head x None hs = hs
with_head x (Some h) hs = record h { id = x } ∷ hs

-- the heads of operations
abbrev pub heads_by : (ℕ → Option Head) → List ℕ → List Head
heads_by f [] = []
heads_by f (x ∷ xs) = with_head x (f x) (heads_by f xs)

-- the operations, with x and its parent p prepended, if x is there
abbrev pub with_point : (ℕ → Own) → ℕ → Option ℕ → Option Head → List Point → List Point
with_point own x p None ns = ns
with_point own x p (Some h) ns = record { id = x; parent = p; own = own h.name } ∷ ns

-- operations with their parents
abbrev pub points_by : (ℕ → Own) → (ℕ → Option ℕ) → (ℕ → Option Head) → List ℕ → List Point
points_by own p f [] = []
points_by own p f (x ∷ xs) = with_point own x (p x) (f x) (points_by own p f xs)

-- the parent of an operation in a store's module
abbrev pub parent_at : Stored → ℕ → Option ℕ
parent_at s x = parent_of x s.module_of.tree
