-- Edits of a module as data: the module after each, and the reason for a refusal.
use Rattle.std.specs.Prelude.{ℕ, ◌+◌, nat_le, eqb, Bool, not, ◌||◌, Option, Some, None, is_some, if◌then◌else◌}
use Rattle.std.specs.Option.{option_eq}
use Rattle.ir_event.specs.types.declared.refusal.Refusal.{Refusal}
use Rattle.ir_event.specs.types.declared.refusal.Refusal.TheVariants.{NoSuchOp, NoSuchValue}
use Rattle.ir_event.specs.types.declared.refusal.Refusal.TheVariants.{HasUses, NotVisible, TypeDiffers}
use Rattle.ir_event.specs.types.declared.refusal.Refusal.TheVariants.{NoSuchIndex, IsRoot}
use Rattle.ir_event.specs.types.declared.refusal.Refusal.TheVariants.{Full, IdsExhausted, TooDeepHere}
use Rattle.ir_event.specs.trees.declared.value.Value.{Value}
use Rattle.ir_event.specs.trees.declared.place.Place.{Place}
use Rattle.ir_event.specs.trees.declared.place.Part.{Part}
use Rattle.ir_event.specs.trees.declared.place.Part.TheVariants.{Props, Attrs}
use Rattle.ir_event.specs.trees.Tree.{HeadOf, OpOf, head}
use Rattle.ir_event.specs.trees.Ids.{find, has_id, op_count}
use Rattle.ir_event.specs.trees.Sites.{operands_visible}
use Rattle.ir_event.specs.trees.Limits.{depth, every, most_ops, most_next, op_fits}
use Rattle.ir_event.specs.trees.Edits.{with_operand, with_value_replaced, with_entry, entry_at}
use Rattle.ir_event.specs.trees.Places.{put, without, shifted}
use Rattle.ir_event.specs.trees.WellFormed.{ModuleOf}
use Rattle.ir_event.specs.tree_laws.Values.{type_of_value, has_value}
use Rattle.ir_event.specs.tree_laws.Reads.{around}
use Rattle.ir_event.specs.tree_laws.Reasons.{unless, has_place, fits_around, with_id, put_reason, unused_outside}
use Rattle.ir_event.specs.tree_laws.Reasons.{is_visible_to_users, set_operand_reason, set_entry_reason, shift_reason}

-- the tests of names, keys and types that edits need
pub record TestsOf (N T : Type 0) : Type 0 where
  -- operations of this name are isolated from above
  pub isolated : N → Bool
  -- operations of this name are symbol tables
  pub table : N → Bool
  -- the key is inherent to operations of this name: it is one of their properties
  pub inherent : N → N → Bool
  -- the first key is before the second
  pub before : N → N → Bool
  -- the two types are equal
  pub same_type : T → T → Bool

-- an edit
pub data EditOf (N T A : Type 0) : Type 0 where
  -- inserts an operation, with everything inside it, at a place
  Insert : Place → OpOf N T A → EditOf N T A
  -- inserts an operation with empty blocks at a place, under the next free id; its own id is ignored
  Make : Place → OpOf N T A → EditOf N T A
  -- removes an operation with everything inside it
  Erase : ℕ → EditOf N T A
  -- moves an operation, with everything inside it, to a place
  Move : ℕ → Place → EditOf N T A
  -- sets an operand, given by its index, to a value
  SetOperand : ℕ → ℕ → Value → EditOf N T A
  -- replaces all uses of the first value by the second
  Replace : Value → Value → EditOf N T A
  -- sets the attribute at a key of an operation
  SetAttr : ℕ → N → A → EditOf N T A
  -- removes the entry at a key of an operation
  DropAttr : ℕ → N → EditOf N T A

-- the dictionary of an operation to which a key belongs: the properties if the key is inherent or they have it,
-- otherwise the attributes
abbrev pub part_in : {N T A : Type 0} → TestsOf N T → N → Option (OpOf N T A) → Part
part_in w k None = Attrs
part_in w k (Some o) =
    if w.inherent (head o).name k || is_some (entry_at w.before k (head o).properties) then Props else Attrs

-- the same, for operation x of a tree
abbrev pub part_for : {N T A : Type 0} → TestsOf N T → ℕ → N → OpOf N T A → Part
part_for w x k t = part_in w k (find x t)

-- ---- the module after an edit

-- the tree after an edit; `free` is the next free id
abbrev pub tree_edited : {N T A : Type 0} → TestsOf N T → EditOf N T A → ℕ → OpOf N T A → OpOf N T A
tree_edited w (Insert place o) free t = put place o t
tree_edited w (Make place o) free t = put place (with_id free o) t
tree_edited w (Erase x) free t = without x t
tree_edited w (Move x place) free t = shifted x place t
tree_edited w (SetOperand x k v) free t = with_operand x k v t
tree_edited w (Replace old new) free t = with_value_replaced old new t
tree_edited w (SetAttr x k a) free t = with_entry w.before x (part_for w x k t) k (Some a) t
tree_edited w (DropAttr x k) free t = with_entry w.before x (part_for w x k t) k None t

-- the next free id after an edit: each inserted operation takes one
abbrev pub next_edited : {N T A : Type 0} → EditOf N T A → ℕ → ℕ
next_edited (Insert place o) n = n + op_count o
next_edited (Make place o) n = n + 1
next_edited (Erase x) n = n
next_edited (Move x place) n = n
next_edited (SetOperand x k v) n = n
next_edited (Replace old new) n = n
next_edited (SetAttr x k a) n = n
next_edited (DropAttr x k) n = n

-- the module after an edit
abbrev pub edited_by : {N T A : Type 0} → TestsOf N T → EditOf N T A → ModuleOf N T A → ModuleOf N T A
edited_by w e m = record { tree = tree_edited w e m.next m.tree; next = next_edited e m.next }

-- ---- the reason against an edit: the first one in this order, if there is one

-- against inserting operation o, with everything inside it, at a place, where `free` is the next free id: the place's
-- parent is missing; no such place; a count exceeds its limit; not enough ids are left; too deep; an operand would not
-- be visible
abbrev pub insert_reason : {N T A : Type 0} → (N → Bool) → Place → OpOf N T A → ℕ → OpOf N T A → Option Refusal
insert_reason isolated place o free t =
    unless (has_id place.parent t) NoSuchOp
    (unless (has_place place t) NoSuchIndex
    (unless (nat_le (op_count t + op_count o) most_ops) Full
    (unless (every op_fits o) Full
    (unless (nat_le (free + op_count o) most_next) IdsExhausted
    (unless (fits_around (depth o) (around place.parent t)) TooDeepHere
    (unless (operands_visible isolated (put place o t)) NotVisible None))))))

-- against erasing operation x: it is missing; it is the root; a value defined inside is used outside
abbrev pub erase_reason : {N T A : Type 0} → ℕ → OpOf N T A → Option Refusal
erase_reason x t =
    unless (has_id x t) NoSuchOp
    (unless (not (eqb (head t).id x)) IsRoot
    (unless (unused_outside x t) HasUses None))

-- against replacing a value by another: the first is missing; the second is missing; their types differ; the second
-- isn't visible at a user of the first
abbrev pub replace_reason : {N T A : Type 0} → TestsOf N T → Value → Value → OpOf N T A → Option Refusal
replace_reason w old new t =
    unless (has_value old t) NoSuchValue
    (unless (has_value new t) NoSuchValue
    (unless (option_eq w.same_type (type_of_value old t) (type_of_value new t)) TypeDiffers
    (unless (is_visible_to_users w.isolated old new t) NotVisible None)))

-- the reason against an edit of a tree; `free` is the next free id
abbrev pub tree_reason : {N T A : Type 0} → TestsOf N T → EditOf N T A → ℕ → OpOf N T A → Option Refusal
tree_reason w (Insert place o) free t = insert_reason w.isolated place o free t
tree_reason w (Make place o) free t = put_reason w.isolated place o free t
tree_reason w (Erase x) free t = erase_reason x t
tree_reason w (Move x place) free t = shift_reason w.isolated w.table x place t
tree_reason w (SetOperand x k v) free t = set_operand_reason w.isolated x k v t
tree_reason w (Replace old new) free t = replace_reason w old new t
tree_reason w (SetAttr x k a) free t = set_entry_reason w.before x (part_for w x k t) k (Some a) t
tree_reason w (DropAttr x k) free t = set_entry_reason w.before x (part_for w x k t) k None t

abbrev pub reason_by : {N T A : Type 0} → TestsOf N T → EditOf N T A → ModuleOf N T A → Option Refusal
reason_by w e m = tree_reason w e m.next m.tree
