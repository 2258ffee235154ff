-- The new store after each call.
use Rattle.std.specs.Prelude.{◌≡◌, ℕ, ◌+◌, ◌<◌, ◌⊎◌, eqb, nat_lt, Bool, true, false, if◌then◌else◌, Option, Some, None, is_some}
use Rattle.std.specs.List.{list_all}
use Rattle.std.specs.Ordering.{nat_cmp}
use Rattle.std.specs.FinMap as map
use Rattle.ir_store_reads.specs.trees.declared.value.Value.{Value}
use Rattle.ir_store_reads.specs.trees.declared.place.Place.{Place}
use Rattle.ir_store_reads.specs.trees.declared.place.Part.{Part}
use Rattle.ir_store_reads.specs.trees.Tree.{Op, head}
use Rattle.ir_store_reads.specs.trees.Ids.{find, has_id}
use Rattle.ir_store_reads.specs.trees.Edits.{with_operand, with_entry}
use Rattle.ir_store_reads.specs.trees.Places.{put, without, shifted}
use Rattle.ir_store_reads.specs.trees.Limits.{most_next}
use Rattle.ir_store_reads.specs.tree_laws.Values.{has_value}
use Rattle.ir_store_reads.specs.tree_laws.Reasons.{with_id, has_place, holds_none, unused}
use Rattle.ir_store_reads.specs.Slots.{gone_after}
use Rattle.ir_store_reads.specs.Stored.{Stored, Gone, none_gone, change_gone, has_entry, has_slot}

-- a newly loaded store: the module, no held operations, and no removed keys
pub record Loaded (t : Op) (free : ℕ) (s : Stored) : Type 0 where
  pub module_of : s.module_of ≡ record { tree = t; next = free }
  pub held : s.held ≡ map.empty
  pub gone : (x : ℕ) → map.get s.gone x ≡ (if has_id x t then Some none_gone else None)

-- a store with another tree
abbrev pub with_tree : Op → Stored → Stored
with_tree t s = record s { module_of = record s.module_of { tree = t } }

-- the held operations with one more, if there is one, under id x
abbrev pub hold : ℕ → Option Op → map.FinMap nat_cmp Op → map.FinMap nat_cmp Op
hold x None m = m
hold x (Some o) m = map.insert m x o

-- header o inserted at a place, under the next free id
abbrev pub after_put : Place → Op → Stored → Stored
after_put place o s =
    record s {
      module_of = record { tree = put place (with_id s.module_of.next o) s.module_of.tree; next = s.module_of.next + 1 };
      gone = map.insert s.gone s.module_of.next none_gone;
    }

-- operation x taken out, and held
abbrev pub after_take : ℕ → Stored → Stored
after_take x s =
    record s {
      module_of = record s.module_of { tree = without x s.module_of.tree };
      held = hold x (find x s.module_of.tree) s.held;
    }

-- the next free id after x is undone: x, the newest id, is free again
abbrev pub lowered : Bool → ℕ → ℕ → ℕ
lowered true x n = x
lowered false x n = n

-- the next free id after an undone insertion: x is free again if it is the newest id
abbrev pub after_retract : ℕ → Bool → Stored → Stored
after_retract x fresh s =
    record (after_take x s) { module_of = record { tree = without x s.module_of.tree; next = lowered fresh x s.module_of.next } }

-- the next free id after x is inserted: with `true`, x is in use
abbrev pub raised : Bool → ℕ → ℕ → ℕ
raised true x n = x + 1
raised false x n = n

-- the held operation, inserted at a place
abbrev pub put_held : Place → Option Op → Op → Op
put_held place None t = t
put_held place (Some o) t = put place o t

-- held operation x, inserted again at a place
abbrev pub after_restore : ℕ → Place → Bool → Stored → Stored
after_restore x place fresh s =
    record s {
      module_of = record { tree = put_held place (map.get s.held x) s.module_of.tree; next = raised fresh x s.module_of.next };
      held = map.remove s.held x;
    }

-- operand k of operation x replaced by v
abbrev pub after_operand : ℕ → ℕ → Value → Stored → Stored
after_operand x k v s = with_tree (with_operand x k v s.module_of.tree) s

-- operation x, with everything inside it, shifted to a place
abbrev pub after_shift : ℕ → Place → Stored → Stored
after_shift x place s = with_tree (shifted x place s.module_of.tree) s

-- the removed keys of all operations, with those of operation x changed
abbrev pub change_gone_of : ℕ → (Gone → Gone) → Option Gone → map.FinMap nat_cmp Gone → map.FinMap nat_cmp Gone
change_gone_of x f None m = m
change_gone_of x f (Some g) m = map.insert m x (f g)

-- key k of one dictionary of operation x set to a, or removed: the slot of a removed key is kept
abbrev pub after_entry : (ℕ → ℕ → Bool) → ℕ → Part → ℕ → Option ℕ → Stored → Stored
after_entry before x part k a s =
    record s {
      module_of = record s.module_of { tree = with_entry before x part k a s.module_of.tree };
      gone = change_gone_of x (change_gone part (gone_after k a)) (map.get s.gone x) s.gone;
    }

-- the removed keys of an operation of the module after a release from an id on: a release from 0 drops them
abbrev pub gone_left : ℕ → Option Gone → Option Gone
gone_left from None = None
gone_left from (Some g) = Some (if eqb from 0 then none_gone else g)

-- the module is unchanged, and the held operations from an id on are released
pub record Releases (from : ℕ) (s u : Stored) : Type 0 where
  pub module_of : u.module_of ≡ s.module_of
  pub held : u.held ≡ map.retain_keys s.held (λ x. nat_lt x from)
  pub gone : (x : ℕ) → map.get u.gone x ≡ (if has_id x s.module_of.tree then gone_left from (map.get s.gone x) else (if nat_lt x from then map.get s.gone x else None))

-- operation x is held, and the place and its operands are in the module: x can be inserted again
pub record CanRestore (x : ℕ) (place : Place) (fresh : Bool) (s : Stored) : Type 0 where
  pub held : is_some (map.get s.held x) ≡ true
  pub point : has_place place s.module_of.tree ≡ true
  pub values : (o : Op) → map.get s.held x ≡ Some o → list_all (λ v. has_value v s.module_of.tree) (head o).operands ≡ true
  pub newest : fresh ≡ true → s.module_of.next ≡ x
  pub headroom : fresh ≡ true → x < most_next
  pub below : fresh ≡ false → x < s.module_of.next

-- operation x is in the module and isn't the root; it has no operations inside it and no uses: x can be taken out
pub record CanRetract (x : ℕ) (fresh : Bool) (s : Stored) : Type 0 where
  pub there : has_id x s.module_of.tree ≡ true
  pub inner : eqb (head s.module_of.tree).id x ≡ false
  pub empty : holds_none (find x s.module_of.tree) ≡ true
  pub unused : unused x s.module_of.tree ≡ true
  pub newest : fresh ≡ true → s.module_of.next ≡ x + 1

-- setting key k of operation x to a, or removing k, needs no new slot: k is removed, or has a slot
abbrev pub NeedsNoSlot : ℕ → Part → ℕ → Option ℕ → Stored → Type 0
NeedsNoSlot x part k a s = (a ≡ None) ⊎ (has_slot x part k s ≡ true)

-- operation x is in the module and has a slot for key k; a key to remove is present
pub record CanRevert (x : ℕ) (part : Part) (k : ℕ) (a : Option ℕ) (s : Stored) : Type 0 where
  pub there : has_id x s.module_of.tree ≡ true
  pub slot : has_slot x part k s ≡ true
  pub entry : a ≡ None → has_entry x part k s ≡ true
