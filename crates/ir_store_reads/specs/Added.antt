-- The ids of the tree that slots represent, appended to a list.
use Rattle.std.specs.Prelude.{◌≡◌, ℕ, List, ◌++◌}
use Rattle.ir_store_slots.specs.trees.Tree.{Op, Regions, Ops}
use Rattle.ir_store_slots.specs.trees.Ids.{ids, regions_ids, ops_ids}
use Rattle.ir_store_slots.specs.Rows.{Row, RegionShape}
use Rattle.ir_store_slots.specs.Spells.{SpellsOp, SpellsRegions, SpellsOps}

module _ (slots : List Row) (lists : List (List ℕ)) where
  -- the ids of an operation and of those inside it, in pre-order
  abbrev pub AddsOp : ℕ → List ℕ → List ℕ → Type 0
  AddsOp k before after = (t : Op) → SpellsOp slots lists k t → after ≡ before ++ ids t

  -- the ids in regions
  abbrev pub AddsRegions : List RegionShape → List ℕ → List ℕ → Type 0
  AddsRegions xs before after = (rs : Regions) → SpellsRegions slots lists xs rs → after ≡ before ++ regions_ids rs

  -- the ids in a list
  abbrev pub AddsOps : List ℕ → List ℕ → List ℕ → Type 0
  AddsOps ks before after = (os : Ops) → SpellsOps slots lists ks os → after ≡ before ++ ops_ids os
