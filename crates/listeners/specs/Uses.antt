-- The analysis of uses: each use of each value, in order.
use Rattle.std.specs.Prelude.{ℕ, ◌+◌, List, [], ◌∷◌, ◌++◌, map, if◌then◌else◌}
use Rattle.std.specs.declared.cmp.Ordering.{Ordering}
use Rattle.std.specs.Ordering.{ordering_then, nat_cmp, is_gt}
use Rattle.std.specs.Option.{option_cmp}
use Rattle.ir_event.specs.trees.declared.value.Value.{Value}
use Rattle.ir_event.specs.trees.Tree.{OpOf, op, RegionsOf, no_regions, region}
use Rattle.ir_event.specs.trees.Tree.{RegionOf, empty, block, OpsOf, no_ops, next}
use Rattle.ir_event.specs.trees.Frames.{owner_of, place_of}
use Rattle.ir_event.specs.trees.Meaning.{Operation}
use Rattle.ir_event.specs.Rows.{RowTerm, Val, Op, Num}
use Rattle.listeners.specs.declared.key.Use.{Use}

-- the uses in a list of operands of operation x, the first with operand number k
abbrev pub operand_uses : ℕ → ℕ → List Value → List Use
operand_uses x k [] = []
operand_uses x k (v ∷ vs) = record { value = v; user = x; operand = k } ∷ operand_uses x (k + 1) vs

-- the uses of a tree: users in pre-order, the operands of each in order
abbrev mutual
  pub uses_in : {N T A : Type 0} → OpOf N T A → List Use
  uses_in (op h rs) = operand_uses h.id 0 h.operands ++ regions_uses rs

  pub regions_uses : {N T A : Type 0} → RegionsOf N T A → List Use
  regions_uses no_regions = []
  regions_uses (region r rs) = region_uses r ++ regions_uses rs

  pub region_uses : {N T A : Type 0} → RegionOf N T A → List Use
  region_uses empty = []
  region_uses (block args os) = ops_uses os

  pub ops_uses : {N T A : Type 0} → OpsOf N T A → List Use
  ops_uses no_ops = []
  ops_uses (next o os) = uses_in o ++ ops_uses os

-- the order of uses: by the owner of the value, its results before its arguments (which have a region), by the region
-- and the place of the value, and then by user and operand number
abbrev pub use_cmp : Use → Use → Ordering
use_cmp u v =
    ordering_then (nat_cmp (owner_of u.value).0 (owner_of v.value).0)
    (ordering_then (option_cmp nat_cmp (owner_of u.value).1 (owner_of v.value).1)
    (ordering_then (nat_cmp (place_of u.value) (place_of v.value))
    (ordering_then (nat_cmp u.user v.user) (nat_cmp u.operand v.operand))))

-- one more use in an ordered list of uses
abbrev pub put_use : Use → List Use → List Use
put_use u [] = u ∷ []
put_use u (v ∷ vs) = if is_gt (use_cmp u v) then v ∷ put_use u vs else u ∷ v ∷ vs

-- the uses in order
abbrev pub in_order : List Use → List Use
in_order [] = []
in_order (u ∷ us) = put_use u (in_order us)

-- the uses of a tree in order
abbrev pub all_uses : {N T A : Type 0} → OpOf N T A → List Use
all_uses t = in_order (uses_in t)

-- the row of a use: the value, the user, the operand number
abbrev pub use_row : Use → RowTerm
use_row u = Val u.value ∷ Op u.user ∷ Num u.operand ∷ []

-- the rows of a tree
abbrev pub uses_rows : Operation → List RowTerm
uses_rows t = map use_row (all_uses t)
