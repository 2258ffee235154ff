-- Edited trees: f of each head, and g of the list of each block, by its operation and the index of its region.
use Rattle.std.specs.Prelude.{ℕ, ◌+◌}
use Rattle.ir_tree.specs.Tree.{HeadOf, OpOf, op, RegionsOf, no_regions, region, RegionOf, empty, block, OpsOf, no_ops, next}

-- the tree with both edits made, innermost blocks first
abbrev mutual
  pub edited : {N T A : Type 0} → (HeadOf N T A → HeadOf N T A) → (ℕ → ℕ → OpsOf N T A → OpsOf N T A) → OpOf N T A → OpOf N T A
  edited f g (op h rs) = op (f h) (regions_edited f g h.id 0 rs)

  pub regions_edited : {N T A : Type 0} → (HeadOf N T A → HeadOf N T A) → (ℕ → ℕ → OpsOf N T A → OpsOf N T A) → ℕ → ℕ → RegionsOf N T A → RegionsOf N T A
  regions_edited f g p r no_regions = no_regions
  regions_edited f g p r (region q rs) = region (region_edited f g p r q) (regions_edited f g p (r + 1) rs)

  pub region_edited : {N T A : Type 0} → (HeadOf N T A → HeadOf N T A) → (ℕ → ℕ → OpsOf N T A → OpsOf N T A) → ℕ → ℕ → RegionOf N T A → RegionOf N T A
  region_edited f g p r empty = empty
  region_edited f g p r (block args os) = block args (g p r (ops_edited f g os))

  pub ops_edited : {N T A : Type 0} → (HeadOf N T A → HeadOf N T A) → (ℕ → ℕ → OpsOf N T A → OpsOf N T A) → OpsOf N T A → OpsOf N T A
  ops_edited f g no_ops = no_ops
  ops_edited f g (next o os) = next (edited f g o) (ops_edited f g os)
