-- The depth, the counts and the limits of a module.
use Rattle.std.specs.Prelude.{ℕ, ◌+◌, max, List, length, nat_le, Bool, true, ◌&&◌}
use Rattle.ir_tree.specs.Tree.{HeadOf, OpOf, op, RegionsOf, no_regions, region, RegionOf, empty, block, OpsOf, no_ops, next, region_count}
use Rattle.ir_tree.specs.Ids.{op_count}

-- the greatest nesting depth in the tree
abbrev mutual
  pub depth : {N T A : Type 0} → OpOf N T A → ℕ
  depth (op h rs) = regions_depth rs

  pub regions_depth : {N T A : Type 0} → RegionsOf N T A → ℕ
  regions_depth no_regions = 0
  regions_depth (region r rs) = max (region_depth r) (regions_depth rs)

  pub region_depth : {N T A : Type 0} → RegionOf N T A → ℕ
  region_depth empty = 0
  region_depth (block args os) = ops_depth os

  pub ops_depth : {N T A : Type 0} → OpsOf N T A → ℕ
  ops_depth no_ops = 0
  ops_depth (next o os) = max (depth o + 1) (ops_depth os)

-- whether each operation of the tree passes a test
abbrev mutual
  pub every : {N T A : Type 0} → (OpOf N T A → Bool) → OpOf N T A → Bool
  every p (op h rs) = p (op h rs) && regions_every p rs

  pub regions_every : {N T A : Type 0} → (OpOf N T A → Bool) → RegionsOf N T A → Bool
  regions_every p no_regions = true
  regions_every p (region r rs) = region_every p r && regions_every p rs

  pub region_every : {N T A : Type 0} → (OpOf N T A → Bool) → RegionOf N T A → Bool
  region_every p empty = true
  region_every p (block args os) = ops_every p os

  pub ops_every : {N T A : Type 0} → (OpOf N T A → Bool) → OpsOf N T A → Bool
  ops_every p no_ops = true
  ops_every p (next o os) = every p o && ops_every p os

-- the limit of operations of a module, the root included
abbrev pub most_ops : ℕ
most_ops = 1048576

-- the depth limit: the number of ancestors of an operation
abbrev pub most_around : ℕ
most_around = 128

-- the limit of operands, of results, of arguments of a block and of entries of a dictionary
abbrev pub most_items : ℕ
most_items = 256

-- the limit of regions of an operation
abbrev pub most_regions : ℕ
most_regions = 16

-- the limit of the next free id of a module
abbrev pub most_next : ℕ
most_next = 4294967295

-- whether a list is within its limit
abbrev pub items_fit : {X : Type 0} → List X → Bool
items_fit xs = nat_le (length xs) most_items

-- whether the counts of a head are within the limits
abbrev pub head_fits : {N T A : Type 0} → HeadOf N T A → Bool
head_fits h = items_fit h.operands && (items_fit h.results && (items_fit h.properties && items_fit h.attributes))

-- whether the arguments of a region's block pass a test
abbrev pub arguments_pass : {N T A : Type 0} → (List T → Bool) → RegionOf N T A → Bool
arguments_pass p empty = true
arguments_pass p (block args os) = p args

-- whether the arguments of the block of each region pass a test
abbrev pub all_arguments_pass : {N T A : Type 0} → (List T → Bool) → RegionsOf N T A → Bool
all_arguments_pass p no_regions = true
all_arguments_pass p (region r rs) = arguments_pass p r && all_arguments_pass p rs

-- whether the counts of an operation are within the limits
abbrev pub op_fits : {N T A : Type 0} → OpOf N T A → Bool
op_fits (op h rs) = head_fits h && (nat_le (region_count rs) most_regions && all_arguments_pass items_fit rs)

-- whether every count of a tree is within its limit
abbrev pub counts_fit : {N T A : Type 0} → OpOf N T A → Bool
counts_fit t = nat_le (op_count t) most_ops && every op_fits t
