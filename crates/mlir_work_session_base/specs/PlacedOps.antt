-- The operations of a tree in pre-order, each with its place, and pages of them.
use Rattle.std.specs.Prelude.{ℕ, ◌+◌, ◌==◌, if◌then◌else◌, List, [], ◌∷◌, ◌++◌, take, Option, Some}
use Rattle.ir_event.specs.trees.Tree.{OpOf, head, op, RegionsOf, no_regions, region, RegionOf, empty, block, OpsOf, no_ops, next}
use Rattle.mlir_work_session_base.specs.declared.place.Place.{Place}

-- an operation with its place; the root has no place
pub record PlacedOf (N T A : Type 0) : Type 0 where
  pub place : Option Place
  pub operation : OpOf N T A

-- an operation at this place and the operations inside it, in pre-order
abbrev mutual
  pub placed : {N T A : Type 0} → Option Place → OpOf N T A → List (PlacedOf N T A)
  placed at (op h rs) = record { place = at; operation = op h rs } ∷ regions_placed h.id 0 rs

  -- the operations in the regions of `x` from region r on
  pub regions_placed : {N T A : Type 0} → ℕ → ℕ → RegionsOf N T A → List (PlacedOf N T A)
  regions_placed x r no_regions = []
  regions_placed x r (region g rs) = region_placed x r g ++ regions_placed x (r + 1) rs

  pub region_placed : {N T A : Type 0} → ℕ → ℕ → RegionOf N T A → List (PlacedOf N T A)
  region_placed x r empty = []
  region_placed x r (block args os) = ops_placed x r 0 os

  -- the operations of a block from index k on
  pub ops_placed : {N T A : Type 0} → ℕ → ℕ → ℕ → OpsOf N T A → List (PlacedOf N T A)
  ops_placed x r k no_ops = []
  ops_placed x r k (next o os) = placed (Some (record { parent = x; region = r; index = k })) o ++ ops_placed x r (k + 1) os

-- the operations from operation x on; none if x isn't among them
abbrev pub from_op : {N T A : Type 0} → ℕ → List (PlacedOf N T A) → List (PlacedOf N T A)
from_op x [] = []
from_op x (p ∷ ps) = if (head p.operation).id == x then p ∷ ps else from_op x ps

-- at most `count` operations from operation x on
abbrev pub page : {N T A : Type 0} → ℕ → ℕ → List (PlacedOf N T A) → List (PlacedOf N T A)
page x count ps = take count (from_op x ps)
