-- `IsNumberedFrom` by one walk that counts.
use Rattle.std.specs.Prelude.{ℕ, ◌+◌, eqb, if◌then◌else◌, Option, Some, None, option_and_then}
use Rattle.ir_tree.specs.Tree.{OpOf, op, RegionsOf, no_regions, region, RegionOf, empty, block, OpsOf, no_ops, next}

-- the number after the ids of the tree, if these are n, n + 1, .. in pre-order
abbrev mutual
  pub number_after : {N T A : Type 0} → ℕ → OpOf N T A → Option ℕ
  number_after n (op h rs) = if eqb h.id n then regions_after (n + 1) rs else None

  pub regions_after : {N T A : Type 0} → ℕ → RegionsOf N T A → Option ℕ
  regions_after n no_regions = Some n
  regions_after n (region r rs) = option_and_then (λ m. regions_after m rs) (region_after n r)

  pub region_after : {N T A : Type 0} → ℕ → RegionOf N T A → Option ℕ
  region_after n empty = Some n
  region_after n (block args os) = ops_after n os

  pub ops_after : {N T A : Type 0} → ℕ → OpsOf N T A → Option ℕ
  ops_after n no_ops = Some n
  ops_after n (next o os) = option_and_then (λ m. ops_after m os) (number_after n o)
