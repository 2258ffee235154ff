-- Places of operations, and trees with operations inserted, taken out and moved.
use Rattle.std.specs.Prelude.{ℕ, ◌+◌, eqb, Bool, ◌&&◌, if◌then◌else◌, Option, Some, None}
use Rattle.ir_tree.specs.declared.place.Place.{Place}
use Rattle.ir_tree.specs.Tree.{OpOf, op, RegionsOf, no_regions, region, RegionOf, empty, block, OpsOf, no_ops, next, head}
use Rattle.ir_tree.specs.Ids.{find, first_of}

-- the id of the first operation of a list
abbrev pub first_id : {N T A : Type 0} → OpsOf N T A → Option ℕ
first_id no_ops = None
first_id (next o os) = Some (head o).id

-- the place of operation x, the first in pre-order; the root has none
abbrev mutual
  pub place_of : {N T A : Type 0} → ℕ → OpOf N T A → Option Place
  place_of x (op h rs) = regions_place x h.id 0 rs

  pub regions_place : {N T A : Type 0} → ℕ → ℕ → ℕ → RegionsOf N T A → Option Place
  regions_place x p r no_regions = None
  regions_place x p r (region g rs) = first_of (region_place x p r g) (regions_place x p (r + 1) rs)

  pub region_place : {N T A : Type 0} → ℕ → ℕ → ℕ → RegionOf N T A → Option Place
  region_place x p r empty = None
  region_place x p r (block args os) = ops_place x p r os

  pub ops_place : {N T A : Type 0} → ℕ → ℕ → ℕ → OpsOf N T A → Option Place
  ops_place x p r no_ops = None
  ops_place x p r (next o os) = if eqb (head o).id x then Some (record { parent = p; region = r; before = first_id os }) else first_of (place_of x o) (ops_place x p r os)

-- a tree with f applied to the list of each block, by its operation and the index of its region; innermost blocks first
abbrev mutual
  pub each_list : {N T A : Type 0} → (ℕ → ℕ → OpsOf N T A → OpsOf N T A) → OpOf N T A → OpOf N T A
  each_list f (op h rs) = op h (regions_each_list f h.id 0 rs)

  pub regions_each_list : {N T A : Type 0} → (ℕ → ℕ → OpsOf N T A → OpsOf N T A) → ℕ → ℕ → RegionsOf N T A → RegionsOf N T A
  regions_each_list f p r no_regions = no_regions
  regions_each_list f p r (region g rs) = region (region_each_list f p r g) (regions_each_list f p (r + 1) rs)

  pub region_each_list : {N T A : Type 0} → (ℕ → ℕ → OpsOf N T A → OpsOf N T A) → ℕ → ℕ → RegionOf N T A → RegionOf N T A
  region_each_list f p r empty = empty
  region_each_list f p r (block args os) = block args (f p r (ops_each_list f os))

  pub ops_each_list : {N T A : Type 0} → (ℕ → ℕ → OpsOf N T A → OpsOf N T A) → OpsOf N T A → OpsOf N T A
  ops_each_list f no_ops = no_ops
  ops_each_list f (next o os) = next (each_list f o) (ops_each_list f os)

-- a list with o appended
abbrev pub put_last : {N T A : Type 0} → OpOf N T A → OpsOf N T A → OpsOf N T A
put_last o no_ops = next o no_ops
put_last o (next p os) = next p (put_last o os)

-- a list with o inserted before operation b, if b is in the list
abbrev pub put_before : {N T A : Type 0} → ℕ → OpOf N T A → OpsOf N T A → OpsOf N T A
put_before b o no_ops = no_ops
put_before b o (next p os) = if eqb (head p).id b then next o (next p os) else next p (put_before b o os)

abbrev pub put_in : {N T A : Type 0} → Option ℕ → OpOf N T A → OpsOf N T A → OpsOf N T A
put_in None o os = put_last o os
put_in (Some b) o os = put_before b o os

-- whether a place is in the block of region r of operation p
abbrev pub is_in_block : Place → ℕ → ℕ → Bool
is_in_block place p r = eqb p place.parent && eqb r place.region

abbrev pub put_here : {N T A : Type 0} → Place → OpOf N T A → ℕ → ℕ → OpsOf N T A → OpsOf N T A
put_here place o p r os = if is_in_block place p r then put_in place.before o os else os

-- the tree with o, and everything inside it, inserted at a place
abbrev pub put : {N T A : Type 0} → Place → OpOf N T A → OpOf N T A → OpOf N T A
put place o = each_list (put_here place o)

-- a list without the operations x
abbrev pub drop_op : {N T A : Type 0} → ℕ → OpsOf N T A → OpsOf N T A
drop_op x no_ops = no_ops
drop_op x (next o os) = if eqb (head o).id x then drop_op x os else next o (drop_op x os)

-- the tree without operation x and everything inside it
abbrev pub without : {N T A : Type 0} → ℕ → OpOf N T A → OpOf N T A
without x = each_list (λ p r os. drop_op x os)

-- the tree with operation x, and everything inside it, moved to a place
abbrev pub put_found : {N T A : Type 0} → Place → Option (OpOf N T A) → OpOf N T A → OpOf N T A
put_found place None t = t
put_found place (Some o) t = put place o t

abbrev pub shifted : {N T A : Type 0} → ℕ → Place → OpOf N T A → OpOf N T A
shifted x place t = put_found place (find x t) (without x t)
