-- Trees with heads changed.
use Rattle.std.specs.Prelude.{ℕ, List, [], ◌∷◌, map, eqb, Bool, ◌&&◌, not, if◌then◌else◌, slice_set, Option, Some, None}
use Rattle.ir_tree.specs.declared.value.Value.{Value}
use Rattle.ir_tree.specs.declared.place.Part.{Part}
use Rattle.ir_tree.specs.declared.place.Part.TheVariants.{Props, Attrs}
use Rattle.ir_tree.specs.Tree.{HeadOf, OpOf, op, RegionsOf, no_regions, region, RegionOf, empty, block, OpsOf, no_ops, next}
use Rattle.ir_tree.specs.Uses.{same_value}

-- each operation with its head changed by f
abbrev mutual
  pub each_head : {N T A : Type 0} → (HeadOf N T A → HeadOf N T A) → OpOf N T A → OpOf N T A
  each_head f (op h rs) = op (f h) (regions_each_head f rs)

  pub regions_each_head : {N T A : Type 0} → (HeadOf N T A → HeadOf N T A) → RegionsOf N T A → RegionsOf N T A
  regions_each_head f no_regions = no_regions
  regions_each_head f (region r rs) = region (region_each_head f r) (regions_each_head f rs)

  pub region_each_head : {N T A : Type 0} → (HeadOf N T A → HeadOf N T A) → RegionOf N T A → RegionOf N T A
  region_each_head f empty = empty
  region_each_head f (block args os) = block args (ops_each_head f os)

  pub ops_each_head : {N T A : Type 0} → (HeadOf N T A → HeadOf N T A) → OpsOf N T A → OpsOf N T A
  ops_each_head f no_ops = no_ops
  ops_each_head f (next o os) = next (each_head f o) (ops_each_head f os)

-- an operation with its own head changed by f
abbrev pub with_head : {N T A : Type 0} → (HeadOf N T A → HeadOf N T A) → OpOf N T A → OpOf N T A
with_head f (op h rs) = op (f h) rs

-- f applied to the head of operation x only
abbrev pub at : {N T A : Type 0} → ℕ → (HeadOf N T A → HeadOf N T A) → HeadOf N T A → HeadOf N T A
at x f h = if eqb h.id x then f h else h

-- operand k of a head replaced by v
abbrev pub put_operand : {N T A : Type 0} → ℕ → Value → HeadOf N T A → HeadOf N T A
put_operand k v h = record h { operands = slice_set h.operands k v }

-- operand k of operation x replaced by v
abbrev pub with_operand : {N T A : Type 0} → ℕ → ℕ → Value → OpOf N T A → OpOf N T A
with_operand x k v = each_head (at x (put_operand k v))

-- the second value instead of the first
abbrev pub put_value : Value → Value → Value → Value
put_value old new v = if same_value old v then new else v

abbrev pub put_values : {N T A : Type 0} → Value → Value → HeadOf N T A → HeadOf N T A
put_values old new h = record h { operands = map (put_value old new) h.operands }

-- all uses of the first value replaced by the second
abbrev pub with_value_replaced : {N T A : Type 0} → Value → Value → OpOf N T A → OpOf N T A
with_value_replaced old new = each_head (put_values old new)

-- whether two keys are equal in an order of keys
abbrev pub same_key : {N : Type 0} → (N → N → Bool) → N → N → Bool
same_key before k l = not (before k l) && not (before l k)

-- a sorted dictionary with key k set to a: in place of the old entry, or as a new one
abbrev pub put_entry : {N A : Type 0} → (N → N → Bool) → N → A → List (N × A) → List (N × A)
put_entry before k a [] = (k, a) ∷ []
put_entry before k a (e ∷ es) = if before k e.0 then (k, a) ∷ e ∷ es else (if before e.0 k then e ∷ put_entry before k a es else (k, a) ∷ es)

-- a dictionary without key k
abbrev pub drop_entry : {N A : Type 0} → (N → N → Bool) → N → List (N × A) → List (N × A)
drop_entry before k [] = []
drop_entry before k (e ∷ es) = if same_key before k e.0 then es else e ∷ drop_entry before k es

-- a dictionary with key k set to a, or removed
abbrev pub change_entry : {N A : Type 0} → (N → N → Bool) → N → Option A → List (N × A) → List (N × A)
change_entry before k None es = drop_entry before k es
change_entry before k (Some a) es = put_entry before k a es

-- the attribute at key k of a dictionary, if there is one
abbrev pub entry_at : {N A : Type 0} → (N → N → Bool) → N → List (N × A) → Option A
entry_at before k [] = None
entry_at before k (e ∷ es) = if same_key before k e.0 then Some e.1 else entry_at before k es

-- one dictionary of a head, and a head with that dictionary changed
abbrev pub part_of : {N T A : Type 0} → Part → HeadOf N T A → List (N × A)
part_of Props h = h.properties
part_of Attrs h = h.attributes

abbrev pub change_part : {N T A : Type 0} → Part → (List (N × A) → List (N × A)) → HeadOf N T A → HeadOf N T A
change_part Props f h = record h { properties = f h.properties }
change_part Attrs f h = record h { attributes = f h.attributes }

-- key k of one dictionary of operation x set to a, or removed
abbrev pub with_entry : {N T A : Type 0} → (N → N → Bool) → ℕ → Part → N → Option A → OpOf N T A → OpOf N T A
with_entry before x part k a = each_head (at x (change_part part (change_entry before k a)))
