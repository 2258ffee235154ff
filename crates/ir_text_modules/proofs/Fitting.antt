-- Writable trees within the limits of a well-formed tree.
use Rattle.std.proofs.Common.{◌≤◌, ℕ, Bool, List, length}
use Rattle.std.specs.List.{AllByRecursion}
use Rattle.ir_types.specs.Terms.{TypeTerm, AttrTerm}
use Rattle.ir_tree.specs.Tree.{HeadOf, op, RegionsOf, no_regions, region, RegionOf, empty, block, OpsOf, no_ops, next, region_count}
use Rattle.ir_tree.specs.Meaning.{Operation}
use Rattle.ir_text_modules.specs.Written.{FitsType}
use Rattle.ir_text_modules.specs.WrittenTrees.{IsWritableHead}

-- an operation without its regions: no list has more than 256 items
pub record FitsHead (o : Bool) (h : HeadOf (List ℕ) TypeTerm AttrTerm) : Type 0 where
  pub operands : length h.operands ≤ 256
  pub results : length h.results ≤ 256
  pub properties : length h.properties ≤ 256
  pub attributes : length h.attributes ≤ 256
  pub written : IsWritableHead o h

-- the same for every operation, with at most 16 regions, and for each block, with at most 256 arguments
abbrev mutual
  pub FitsOp : Bool → Operation → Type 0
  FitsOp o (op h rs) = FitsHead o h × (region_count rs ≤ 16) × FitsRegions o rs

  pub FitsRegions : Bool → RegionsOf (List ℕ) TypeTerm AttrTerm → Type 0
  FitsRegions o no_regions = Unit {0}
  FitsRegions o (region g rs) = FitsRegion o g × FitsRegions o rs

  pub FitsRegion : Bool → RegionOf (List ℕ) TypeTerm AttrTerm → Type 0
  FitsRegion o empty = Unit {0}
  FitsRegion o (block args os) = (length args ≤ 256) × AllByRecursion (FitsType o 32) args × FitsOps o os

  pub FitsOps : Bool → OpsOf (List ℕ) TypeTerm AttrTerm → Type 0
  FitsOps o no_ops = Unit {0}
  FitsOps o (next t ts) = FitsOp o t × FitsOps o ts
