-- The heads of the operations of a tree, as a list.
use Rattle.std.specs.Prelude.{List, [], ◌∷◌, ◌++◌}
use Rattle.ir_store.specs.trees.declared.value.Value.{Value}
use Rattle.ir_store.specs.trees.Tree.{HeadOf, OpOf, op, RegionsOf, no_regions, region, RegionOf, empty, block, OpsOf, no_ops, next}
use Rattle.ir_store.specs.tree_laws.Stands.{gather}

-- the heads of a tree in pre-order
abbrev mutual
  pub heads : {N T A : Type 0} → OpOf N T A → List (HeadOf N T A)
  heads (op h rs) = h ∷ regions_heads rs

  pub regions_heads : {N T A : Type 0} → RegionsOf N T A → List (HeadOf N T A)
  regions_heads no_regions = []
  regions_heads (region r rs) = region_heads r ++ regions_heads rs

  pub region_heads : {N T A : Type 0} → RegionOf N T A → List (HeadOf N T A)
  region_heads empty = []
  region_heads (block args os) = ops_heads os

  pub ops_heads : {N T A : Type 0} → OpsOf N T A → List (HeadOf N T A)
  ops_heads no_ops = []
  ops_heads (next o os) = heads o ++ ops_heads os

-- the concatenated operands of the heads
abbrev pub all_operands : {N T A : Type 0} → List (HeadOf N T A) → List Value
all_operands hs = gather (λ h. h.operands) hs
