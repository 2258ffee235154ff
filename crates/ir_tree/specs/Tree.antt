-- Trees of operations as data.
use Rattle.std.specs.Prelude.{ℕ, ◌+◌, List, [], ◌∷◌}
use Rattle.ir_tree.specs.declared.value.Value.{Value}

-- the head of an operation: everything except its regions, with names of N, types of T and attributes of A
pub record HeadOf (N T A : Type 0) : Type 0 where
  pub id : ℕ
  pub name : N
  pub operands : List Value
  pub results : List T
  pub properties : List (N × A)
  pub attributes : List (N × A)

-- a tree of operations: an operation is its head and its regions
mutual
  pub data OpOf (N T A : Type 0) : Type 0 where
    op : HeadOf N T A → RegionsOf N T A → OpOf N T A

  -- the regions of an operation, in order
  pub data RegionsOf (N T A : Type 0) : Type 0 where
    no_regions : RegionsOf N T A
    region : RegionOf N T A → RegionsOf N T A → RegionsOf N T A

  -- a region has no block, or a block of arguments, given by their types, and operations
  pub data RegionOf (N T A : Type 0) : Type 0 where
    empty : RegionOf N T A
    block : List T → OpsOf N T A → RegionOf N T A

  -- the operations of a block, in order
  pub data OpsOf (N T A : Type 0) : Type 0 where
    no_ops : OpsOf N T A
    next : OpOf N T A → OpsOf N T A → OpsOf N T A

-- the trees whose names, types and attributes are ids of a context
abbrev pub Head : Type 0
Head = HeadOf ℕ ℕ ℕ

abbrev pub Op : Type 0
Op = OpOf ℕ ℕ ℕ

abbrev pub Regions : Type 0
Regions = RegionsOf ℕ ℕ ℕ

abbrev pub Region : Type 0
Region = RegionOf ℕ ℕ ℕ

abbrev pub Ops : Type 0
Ops = OpsOf ℕ ℕ ℕ

-- the head of an operation
abbrev pub head : {N T A : Type 0} → OpOf N T A → HeadOf N T A
head (op h rs) = h

-- the regions of an operation
abbrev pub regions : {N T A : Type 0} → OpOf N T A → RegionsOf N T A
regions (op h rs) = rs

-- the number of regions
abbrev pub region_count : {N T A : Type 0} → RegionsOf N T A → ℕ
region_count no_regions = 0
region_count (region r rs) = region_count rs + 1

-- regions and operations from lists
abbrev pub regions_of : {N T A : Type 0} → List (RegionOf N T A) → RegionsOf N T A
regions_of [] = no_regions
regions_of (r ∷ rs) = region r (regions_of rs)

abbrev pub ops_of : {N T A : Type 0} → List (OpOf N T A) → OpsOf N T A
ops_of [] = no_ops
ops_of (o ∷ os) = next o (ops_of os)

-- lists of regions and operations
abbrev pub region_list : {N T A : Type 0} → RegionsOf N T A → List (RegionOf N T A)
region_list no_regions = []
region_list (region r rs) = r ∷ region_list rs

abbrev pub op_list : {N T A : Type 0} → OpsOf N T A → List (OpOf N T A)
op_list no_ops = []
op_list (next o os) = o ∷ op_list os

-- the number of operations and regions, the measure of a walk
abbrev mutual
  pub op_size : Op → ℕ
  op_size (op h rs) = regions_size rs + 1

  pub regions_size : Regions → ℕ
  regions_size no_regions = 0
  regions_size (region r rs) = region_size r + regions_size rs

  pub region_size : Region → ℕ
  region_size empty = 1
  region_size (block args os) = ops_size os + 1

  pub ops_size : Ops → ℕ
  ops_size no_ops = 0
  ops_size (next o os) = op_size o + ops_size os
