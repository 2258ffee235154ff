-- Reads of a tree: the neighbours of an operation, and the order of operations.
use Rattle.std.specs.Prelude.{ℕ, ◌+◌, List, [], ◌∷◌, eqb, Bool, false, ◌&&◌, ◌||◌, if◌then◌else◌, Option, Some, None, option_map, option_and_then}
use Rattle.std.specs.List.{list_any}
use Rattle.ir_tree.specs.declared.place.Place.{Place}
use Rattle.ir_tree.specs.declared.value.Value.{Value}
use Rattle.ir_tree.specs.declared.value.Value.TheVariants.{Result, Arg}
use Rattle.ir_tree.specs.Tree.{OpOf, op, RegionsOf, no_regions, region, RegionOf, empty, block, OpsOf, no_ops, next, head, regions}
use Rattle.ir_tree.specs.Ids.{ids, find, first_of}
use Rattle.ir_tree.specs.Places.{place_of, first_id}
use Rattle.ir_tree_laws.specs.Values.{region_at}

-- the parent of operation x
abbrev pub parent_of : {N T A : Type 0} → ℕ → OpOf N T A → Option ℕ
parent_of x t = option_map (λ p. p.parent) (place_of x t)

-- the operation after x in its block
abbrev pub next_of : {N T A : Type 0} → ℕ → OpOf N T A → Option ℕ
next_of x t = option_and_then (λ p. p.before) (place_of x t)

-- the operations of a region's block, if it has one
abbrev pub ops_in : {N T A : Type 0} → RegionOf N T A → Option (OpsOf N T A)
ops_in empty = None
ops_in (block args os) = Some os

-- the operations of the block of region r of operation p
abbrev pub ops_at : {N T A : Type 0} → ℕ → ℕ → OpOf N T A → Option (OpsOf N T A)
ops_at p r t = option_and_then (λ o. option_and_then ops_in (region_at r (regions o))) (find p t)

-- the last operation of a list
abbrev pub last_id : {N T A : Type 0} → OpsOf N T A → Option ℕ
last_id no_ops = None
last_id (next o os) = first_of (last_id os) (Some (head o).id)

-- the first operation of the block of region r of operation p
abbrev pub first_at : {N T A : Type 0} → ℕ → ℕ → OpOf N T A → Option ℕ
first_at p r t = option_and_then first_id (ops_at p r t)

-- the last operation of the block of region r of operation p
abbrev pub last_at : {N T A : Type 0} → ℕ → ℕ → OpOf N T A → Option ℕ
last_at p r t = option_and_then last_id (ops_at p r t)

-- whether operation b is in the list
abbrev pub is_among : {N T A : Type 0} → ℕ → OpsOf N T A → Bool
is_among b no_ops = false
is_among b (next o os) = eqb (head o).id b || is_among b os

-- whether operation b is after the first operation a of the list
abbrev pub goes_before : {N T A : Type 0} → ℕ → ℕ → OpsOf N T A → Bool
goes_before a b no_ops = false
goes_before a b (next o os) = if eqb (head o).id a then is_among b os else goes_before a b os

-- the operation before x in a list; `last` is the operation before the list
abbrev pub id_before : {N T A : Type 0} → ℕ → Option ℕ → OpsOf N T A → Option ℕ
id_before x last no_ops = None
id_before x last (next o os) = if eqb (head o).id x then last else id_before x (Some (head o).id) os

-- the list that has operation x
abbrev pub list_of : {N T A : Type 0} → ℕ → OpOf N T A → Option (OpsOf N T A)
list_of x t = option_and_then (λ p. ops_at p.parent p.region t) (place_of x t)

-- the operation before operation x in its block
abbrev pub prev_of : {N T A : Type 0} → ℕ → OpOf N T A → Option ℕ
prev_of x t = option_and_then (id_before x None) (list_of x t)

-- whether there is a list, and it passes the test
abbrev pub in_list : {N T A : Type 0} → (OpsOf N T A → Bool) → Option (OpsOf N T A) → Bool
in_list p None = false
in_list p (Some os) = p os

-- whether operations a and b are in one block and a is earlier
abbrev pub is_before : {N T A : Type 0} → ℕ → ℕ → OpOf N T A → Bool
is_before a b t = in_list (goes_before a b) (list_of a t)

-- whether a value's owner is before operation x in its list, or the value is an argument of the block of the place
abbrev pub is_next_to : {N T A : Type 0} → ℕ → Place → Value → OpOf N T A → Bool
is_next_to x place (Result y k) t = is_before y x t
is_next_to x place (Arg y r k) t = eqb y place.parent && eqb r place.region

-- whether b is after the first a in a list of ids
abbrev pub comes_after : ℕ → ℕ → List ℕ → Bool
comes_after a b [] = false
comes_after a b (x ∷ xs) = if eqb x a then list_any (λ y. eqb y b) xs else comes_after a b xs

-- whether operation a comes before operation b in pre-order
abbrev pub precedes : {N T A : Type 0} → ℕ → ℕ → OpOf N T A → Bool
precedes a b t = comes_after a b (ids t)

-- whether operation y is x or within it; false if x is missing
abbrev pub is_within : {N T A : Type 0} → ℕ → Option (OpOf N T A) → Bool
is_within y None = false
is_within y (Some o) = list_any (λ z. eqb z y) (ids o)

-- the depth of operation x, if it is in the searched part, whose root has depth n
abbrev mutual
  pub around_in : {N T A : Type 0} → ℕ → ℕ → OpOf N T A → Option ℕ
  around_in x n (op h rs) = if eqb h.id x then Some n else regions_around x (n + 1) rs

  pub regions_around : {N T A : Type 0} → ℕ → ℕ → RegionsOf N T A → Option ℕ
  regions_around x n no_regions = None
  regions_around x n (region g rs) = first_of (region_around x n g) (regions_around x n rs)

  pub region_around : {N T A : Type 0} → ℕ → ℕ → RegionOf N T A → Option ℕ
  region_around x n empty = None
  region_around x n (block args os) = ops_around x n os

  pub ops_around : {N T A : Type 0} → ℕ → ℕ → OpsOf N T A → Option ℕ
  ops_around x n no_ops = None
  ops_around x n (next o os) = first_of (around_in x n o) (ops_around x n os)

-- the depth of operation x in a whole tree
abbrev pub around : {N T A : Type 0} → ℕ → OpOf N T A → Option ℕ
around x t = around_in x 0 t
