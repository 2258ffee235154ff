-- The reads of the slots before an entry is set, and the row after it.
use Rattle.std.specs.Prelude.{ℕ, List, Bool, Option, Some, None, Result, Ok, Err}
use Rattle.ir_store_arena.specs.types.declared.refusal.Refusal.{Refusal}
use Rattle.ir_store_arena.specs.types.declared.refusal.Refusal.TheVariants.{NoSuchOp}
use Rattle.ir_store_arena.specs.trees.declared.place.Part.{Part}
use Rattle.ir_store_arena.specs.trees.Edits.{part_of}
use Rattle.ir_store_arena.specs.tree_laws.Reasons.{entry_reason}
use Rattle.ir_store_slots.specs.Rows.{Row, row_at}
pub use Rattle.ir_store_arena.specs.Rows.{slots_in, row_with_entry}

-- a slot, unless there is a reason
abbrev pub slot_unless : ℕ → Option Refusal → Result ℕ Refusal
slot_unless q None = Ok q
slot_unless q (Some e) = Err e

-- the slot of an operation in which an entry can be set
abbrev pub entry_in : List Row → (ℕ → ℕ → Bool) → Part → ℕ → Option ℕ → Option ℕ → Result ℕ Refusal
entry_in slots before part k a None = Err NoSuchOp
entry_in slots before part k a (Some q) = slot_unless q (entry_reason before k a (part_of part (row_at slots q).head))
