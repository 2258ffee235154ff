-- The reasons against each edit of the module: the highest-priority one, if there is one.
use Rattle.std.specs.Prelude.{ℕ, ◌+◌, nat_lt, nat_le, eqb, length, List, Bool, true, false, not, ◌&&◌, ◌||◌, Option, Some, None, is_some, if◌then◌else◌}
use Rattle.std.specs.List.{list_all}
use Rattle.std.specs.Option.{option_eq}
use Rattle.ir_tree.specs.types.declared.refusal.Refusal.{Refusal}
use Rattle.ir_tree.specs.types.declared.refusal.Refusal.TheVariants.{NoSuchOp, NoSuchValue, HasUses, NotVisible, NoSuchIndex, NoSuchKey, IntoItself, OtherTable, IsRoot, NotEmpty, Full, IdsExhausted, TooDeepHere}
use Rattle.ir_tree.specs.declared.value.Value.{Value}
use Rattle.ir_tree.specs.declared.place.Place.{Place}
use Rattle.ir_tree.specs.declared.place.Part.{Part}
use Rattle.ir_tree.specs.Tree.{HeadOf, OpOf, RegionsOf, no_regions, region, empty, block, OpsOf, no_ops, next, head, regions}
use Rattle.ir_tree.specs.Ids.{find, has_id, op_count}
use Rattle.ir_tree.specs.Sites.{visible, operands_visible}
use Rattle.ir_tree.specs.Frames.{owner_of}
use Rattle.ir_tree.specs.Limits.{depth, every, most_ops, most_around, most_items, most_next, op_fits}
use Rattle.ir_tree.specs.Edits.{part_of, with_head, entry_at}
use Rattle.ir_tree.specs.Places.{put, without, shifted}
use Rattle.ir_tree.specs.Uses.{uses_of}
use Rattle.ir_tree_laws.specs.Tables.{table_of}
use Rattle.ir_tree_laws.specs.Values.{has_value}
use Rattle.ir_tree_laws.specs.Reads.{ops_at, is_among, is_within, around}

-- a reason if the test fails, and otherwise the remaining reasons
abbrev pub unless : Bool → Refusal → Option Refusal → Option Refusal
unless b refusal rest = if b then rest else Some refusal

-- the value isn't in the tree, or isn't visible at operation x
abbrev pub value_reason : {N T A : Type 0} → (N → Bool) → ℕ → Value → OpOf N T A → Option Refusal
value_reason isolated x v t = if has_value v t then (if visible isolated t x v then None else Some NotVisible) else Some NoSuchValue

-- operation o has no operand k, or a reason against the value
abbrev pub operand_reason : {N T A : Type 0} → ℕ → Option Refusal → Option (OpOf N T A) → Option Refusal
operand_reason k rest None = Some NoSuchOp
operand_reason k rest (Some o) = if nat_lt k (length (head o).operands) then rest else Some NoSuchIndex

-- the reason against v as operand k of operation x: no such operation, no such operand, no such value, a value that
-- isn't visible
abbrev pub set_operand_reason : {N T A : Type 0} → (N → Bool) → ℕ → ℕ → Value → OpOf N T A → Option Refusal
set_operand_reason isolated x k v t = operand_reason k (value_reason isolated x v t) (find x t)

-- whether there is a list, and it has the next operation of a place, if the place names one
abbrev pub is_in_list : {N T A : Type 0} → Option ℕ → Option (OpsOf N T A) → Bool
is_in_list before None = false
is_in_list None (Some os) = true
is_in_list (Some b) (Some os) = is_among b os

-- whether a place is in a tree: the tree has the block, and the block has the next operation, if the place names one
abbrev pub has_place : {N T A : Type 0} → Place → OpOf N T A → Bool
has_place place t = is_in_list place.before (ops_at place.parent place.region t)

-- whether an operation with this many levels inside it keeps within the depth limit at this depth
abbrev pub fits_around : ℕ → Option ℕ → Bool
fits_around levels None = true
fits_around levels (Some n) = nat_le (n + 1 + levels) most_around

-- an operation with this id
abbrev pub with_id : {N T A : Type 0} → ℕ → OpOf N T A → OpOf N T A
with_id x = with_head (λ h. record h { id = x })

-- an operand of a header isn't in the tree, or wouldn't be visible
abbrev pub operands_reason : {N T A : Type 0} → (N → Bool) → ℕ → List Value → OpOf N T A → OpOf N T A → Option Refusal
operands_reason isolated x vs t u =
    unless (list_all (λ v. has_value v t) vs) NoSuchValue (unless (list_all (visible isolated u x) vs) NotVisible None)

-- the reason against inserting header o, whose id is ignored, at a place, where `free` is the next free id: the place's
-- parent is missing; no such place; a count exceeds its limit; no id is left; too deep; no such value; a value that
-- wouldn't be visible
abbrev pub put_reason : {N T A : Type 0} → (N → Bool) → Place → OpOf N T A → ℕ → OpOf N T A → Option Refusal
put_reason isolated place o free t =
    unless (has_id place.parent t) NoSuchOp
    (unless (has_place place t) NoSuchIndex
    (unless (nat_lt (op_count t) most_ops && op_fits o) Full
    (unless (nat_lt free most_next) IdsExhausted
    (unless (fits_around 0 (around place.parent t)) TooDeepHere
    (operands_reason isolated free (head o).operands t (put place (with_id free o) t))))))

-- whether the blocks hold no operations
abbrev pub hold_none : {N T A : Type 0} → RegionsOf N T A → Bool
hold_none no_regions = true
hold_none (region empty rs) = hold_none rs
hold_none (region (block args no_ops) rs) = hold_none rs
hold_none (region (block args (next o os)) rs) = false

-- whether the blocks of an operation hold no operations, if the operation exists
abbrev pub holds_none : {N T A : Type 0} → Option (OpOf N T A) → Bool
holds_none None = true
holds_none (Some o) = hold_none (regions o)

-- whether no operand of the head is a value of operation x
abbrev pub leaves : {N T A : Type 0} → ℕ → HeadOf N T A → Bool
leaves x h = list_all (λ v. not (eqb (owner_of v).0 x)) h.operands

-- whether no operation of the tree uses a value of operation x
abbrev pub unused : {N T A : Type 0} → ℕ → OpOf N T A → Bool
unused x t = every (λ o. leaves x (head o)) t

-- the reason against taking out operation x: it is missing; it is the root; a block of it holds operations; it is used
abbrev pub take_reason : {N T A : Type 0} → ℕ → OpOf N T A → Option Refusal
take_reason x t =
    unless (has_id x t) NoSuchOp
    (unless (not (eqb (head t).id x)) IsRoot
    (unless (holds_none (find x t)) NotEmpty
    (unless (unused x t) HasUses None)))

-- whether no operand of the head is a value of an operation, or of one within it
abbrev pub leaves_within : {N T A : Type 0} → Option (OpOf N T A) → HeadOf N T A → Bool
leaves_within o h = list_all (λ v. not (is_within (owner_of v).0 o)) h.operands

-- whether no operation outside of x uses a value defined at x or within it
abbrev pub unused_outside : {N T A : Type 0} → ℕ → OpOf N T A → Bool
unused_outside x t = every (λ o. leaves_within (find x t) (head o)) (without x t)

-- whether the second value is visible at each user of the first
abbrev pub is_visible_to_users : {N T A : Type 0} → (N → Bool) → Value → Value → OpOf N T A → Bool
is_visible_to_users isolated old new t = list_all (λ u. visible isolated t u.0 new) (uses_of old t)

-- whether a dictionary can take one more entry, or has the key already
abbrev pub has_headroom : {N A : Type 0} → (N → N → Bool) → N → List (N × A) → Bool
has_headroom before k es = nat_lt (length es) most_items || is_some (entry_at before k es)

-- the reason against setting key k of a dictionary, or removing it
abbrev pub entry_reason : {N A : Type 0} → (N → N → Bool) → N → Option A → List (N × A) → Option Refusal
entry_reason before k None es = unless (is_some (entry_at before k es)) NoSuchKey None
entry_reason before k (Some a) es = unless (has_headroom before k es) Full None

-- the same, for one dictionary of an operation that may be missing
abbrev pub found_entry_reason : {N T A : Type 0} → (N → N → Bool) → Part → N → Option A → Option (OpOf N T A) → Option Refusal
found_entry_reason before part k a None = Some NoSuchOp
found_entry_reason before part k a (Some o) = entry_reason before k a (part_of part (head o))

-- the same, for one dictionary of operation x: it is missing; no entry to remove; the dictionary is at its capacity
abbrev pub set_entry_reason : {N T A : Type 0} → (N → N → Bool) → ℕ → Part → N → Option A → OpOf N T A → Option Refusal
set_entry_reason before x part k a t = found_entry_reason before part k a (find x t)

-- whether the next operation of a place, if the place names one, is an operation or within it
abbrev pub before_within : {N T A : Type 0} → Option ℕ → Option (OpOf N T A) → Bool
before_within None o = false
before_within (Some b) o = is_within b o

-- whether the place's parent, or the next operation of the place, is an operation or within it
abbrev pub leads_inside : {N T A : Type 0} → Place → Option (OpOf N T A) → Bool
leads_inside place o = is_within place.parent o || before_within place.before o

-- the number of levels inside an operation, 0 if it is missing
abbrev pub levels_in : {N T A : Type 0} → Option (OpOf N T A) → ℕ
levels_in None = 0
levels_in (Some o) = depth o

-- whether two operations, either of which may be missing, have the same nearest table, or both none
abbrev pub same_table : Option (Option ℕ) → Option (Option ℕ) → Bool
same_table a b = option_eq (option_eq eqb) a b

-- the reason against shifting operation x, with everything inside it, to a place: x or the place's parent is missing; x
-- is the root; no such place; the place is within x; another nearest table; too deep; an operand would not be visible
abbrev pub shift_reason : {N T A : Type 0} → (N → Bool) → (N → Bool) → ℕ → Place → OpOf N T A → Option Refusal
shift_reason isolated is_table x place t =
    unless (has_id x t && has_id place.parent t) NoSuchOp
    (unless (not (eqb (head t).id x)) IsRoot
    (unless (has_place place t) NoSuchIndex
    (unless (not (leads_inside place (find x t))) IntoItself
    (unless (same_table (table_of is_table x t) (table_of is_table x (shifted x place t))) OtherTable
    (unless (fits_around (levels_in (find x t)) (around place.parent t)) TooDeepHere
    (unless (operands_visible isolated (shifted x place t)) NotVisible None))))))
