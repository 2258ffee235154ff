-- The ids of a tree, and finding an operation.
use Rattle.std.specs.Prelude.{◌≡◌, ℕ, List, [], ◌∷◌, ◌++◌, length, eqb, if◌then◌else◌, Bool, Option, Some, None}
use Rattle.std.specs.List.{IsDistinct, list_any, range_with_len}
use Rattle.ir_tree.specs.Tree.{OpOf, op, RegionsOf, no_regions, region, RegionOf, empty, block, OpsOf, no_ops, next}

-- the ids in pre-order
abbrev mutual
  pub ids : {N T A : Type 0} → OpOf N T A → List ℕ
  ids (op h rs) = h.id ∷ regions_ids rs

  pub regions_ids : {N T A : Type 0} → RegionsOf N T A → List ℕ
  regions_ids no_regions = []
  regions_ids (region r rs) = region_ids r ++ regions_ids rs

  pub region_ids : {N T A : Type 0} → RegionOf N T A → List ℕ
  region_ids empty = []
  region_ids (block args os) = ops_ids os

  pub ops_ids : {N T A : Type 0} → OpsOf N T A → List ℕ
  ops_ids no_ops = []
  ops_ids (next o os) = ids o ++ ops_ids os

-- the number of operations, the root included
abbrev pub op_count : {N T A : Type 0} → OpOf N T A → ℕ
op_count t = length (ids t)

-- whether an operation of the tree has id x
abbrev pub has_id : {N T A : Type 0} → ℕ → OpOf N T A → Bool
has_id x t = list_any (λ y. eqb y x) (ids t)

-- all ids are distinct
abbrev pub HasDistinctIds : {N T A : Type 0} → OpOf N T A → Type 0
HasDistinctIds t = IsDistinct eqb (ids t)

-- the ids are n, n + 1, .. in pre-order
abbrev pub IsNumberedFrom : {N T A : Type 0} → ℕ → OpOf N T A → Type 0
IsNumberedFrom n t = ids t ≡ range_with_len n (op_count t)

-- the first of two optional results that isn't none
abbrev pub first_of : {X : Type 0} → Option X → Option X → Option X
first_of None b = b
first_of (Some a) b = Some a

-- the first operation with id x, in pre-order
abbrev mutual
  pub find : {N T A : Type 0} → ℕ → OpOf N T A → Option (OpOf N T A)
  find x (op h rs) = if eqb h.id x then Some (op h rs) else regions_find x rs

  pub regions_find : {N T A : Type 0} → ℕ → RegionsOf N T A → Option (OpOf N T A)
  regions_find x no_regions = None
  regions_find x (region r rs) = first_of (region_find x r) (regions_find x rs)

  pub region_find : {N T A : Type 0} → ℕ → RegionOf N T A → Option (OpOf N T A)
  region_find x empty = None
  region_find x (block args os) = ops_find x os

  pub ops_find : {N T A : Type 0} → ℕ → OpsOf N T A → Option (OpOf N T A)
  ops_find x no_ops = None
  ops_find x (next o os) = first_of (find x o) (ops_find x os)
