-- The final state of an arena when a part of the data under a key is borrowed mutably.
use Rattle.std.specs.Prelude.{ℕ, Option, Some, None}
use Rattle.std.specs.Borrow.{LendsIf, Fml, MutBor}
use Rattle.slab.specs.Slab.{Slab, get, with_value}
use Rattle.ir_store_arena.specs.declared.op_data.ListData.{ListData}
use Rattle.ir_store_arena.specs.declared.op_data.Entries.{Entries}
use Rattle.ir_store_arena.specs.declared.op_data.WithEntries.{WithEntries}
use Rattle.ir_store_arena.specs.declared.op_data.FullData.{FullData}
use Rattle.ir_store_arena.specs.contracts.op_data.ListData.{the_row as plain_row}
use Rattle.ir_store_arena.specs.contracts.op_data.Entries.{the_row as entries_row}
use Rattle.ir_store_arena.specs.declared.slot_kind.SlotKind.{SlotKind}
use Rattle.ir_store_arena.specs.declared.slot_kind.SlotKind.TheVariants.{Free, BlockHead as Leading, InlineOp, ListOp, OpWithEntries, FullOp}
use Rattle.ir_store_arena.specs.declared.op_arena.OpArena.{OpArena}
use Rattle.ir_store_arena.specs.contracts.op_arena.OpArena.{the_row}

-- the value under key k of a slab is changed, if there is one
module _ {X : Type 0} (f : X → X) where
  abbrev pub changed_from : Slab X → ℕ → Option X → Slab X
  changed_from s k None = s
  changed_from s k (Some it) = with_value s k (f it)

  abbrev pub changed_at : Slab X → ℕ → Slab X
  changed_at s k = changed_from s k (get s k)

-- the data with these operands and results
abbrev pub keyed_of : ListData → WithEntries → WithEntries
keyed_of w it = record it { simple = w }

abbrev pub full_of : ListData → FullData → FullData
full_of w it = record it { simple = w }

abbrev pub list_at : OpArena → SlotKind → ListData → OpArena
list_at s (Free n) w = s
list_at s (Leading owner number) w = s
list_at s (InlineOp k) w = s
list_at s (ListOp k) w = record s { simple = changed_at (λ it. w) s.simple k }
list_at s (OpWithEntries k) w = record s { entered = changed_at (keyed_of w) s.entered k }
list_at s (FullOp k) w = record s { whole = changed_at (full_of w) s.whole k }

-- the data with these dictionaries
abbrev pub keyed_by : Entries → WithEntries → WithEntries
keyed_by w it = record it { entries = w }

abbrev pub full_by : Entries → FullData → FullData
full_by w it = record it { entries = w }

abbrev pub enter_at : OpArena → SlotKind → Entries → OpArena
enter_at s (Free n) w = s
enter_at s (Leading owner number) w = s
enter_at s (InlineOp k) w = s
enter_at s (ListOp k) w = s
enter_at s (OpWithEntries k) w = record s { entered = changed_at (keyed_by w) s.entered k }
enter_at s (FullOp k) w = record s { whole = changed_at (full_by w) s.whole k }

-- once the borrow r ends, what h holds has the operands and results last written through r; at `None` nothing changes
abbrev pub LendsPlain : MutBor OpArena → SlotKind → Option (MutBor ListData) → Fml
LendsPlain s h r = LendsIf the_row plain_row s r (list_at s.now h) s.now

-- the same with the dictionaries
abbrev pub LendsEntries : MutBor OpArena → SlotKind → Option (MutBor Entries) → Fml
LendsEntries s h r = LendsIf the_row entries_row s r (enter_at s.now h) s.now
