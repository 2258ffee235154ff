-- The data under keys.
use Rattle.std.specs.Prelude.{◌≡◌, ℕ, Bool, true, false, option_map, is_some, Option, Some, None}
use Rattle.slab.specs.Slab.{Slab, get}
use Rattle.ir_store_arena.specs.declared.slot_kind.SlotKind.{SlotKind}
use Rattle.ir_store_arena.specs.declared.slot_kind.SlotKind.TheVariants.{Free, BlockHead as Leading, InlineOp, ListOp, OpWithEntries, FullOp}
use Rattle.ir_store_arena.specs.declared.op_data.ListData.{ListData}
use Rattle.ir_store_arena.specs.declared.op_data.Entries.{Entries}
use Rattle.ir_store_arena.specs.declared.op_data.WithEntries.{WithEntries}
use Rattle.ir_store_arena.specs.declared.op_data.FullData.{FullData}
use Rattle.ir_store_arena.specs.declared.op_arena.OpArena.{OpArena}
use Rattle.ir_store_arena.specs.Contents.{Contents, no_contents, head_contents}
use Rattle.ir_store_arena.specs.Made.{short_contents, plain_contents, entered_contents, whole_contents}

-- the contents of a slot, if there is data under its key
abbrev pub found : OpArena → SlotKind → Option Contents
found s (Free n) = Some no_contents
found s (Leading owner number) = Some (head_contents owner number)
found s (InlineOp k) = option_map short_contents (get s.short k)
found s (ListOp k) = option_map plain_contents (get s.simple k)
found s (OpWithEntries k) = option_map entered_contents (get s.entered k)
found s (FullOp k) = option_map whole_contents (get s.whole k)

abbrev pub or_none : Option Contents → Contents
or_none None = no_contents
or_none (Some c) = c

abbrev pub contents_at : OpArena → SlotKind → Contents
contents_at s h = or_none (found s h)

-- the operands and results of a slot's operation, if it isn't an `InlineOp`
abbrev pub plain_found : OpArena → SlotKind → Option ListData
plain_found s (Free n) = None
plain_found s (Leading owner number) = None
plain_found s (InlineOp k) = None
plain_found s (ListOp k) = get s.simple k
plain_found s (OpWithEntries k) = option_map (λ (it : WithEntries). it.simple) (get s.entered k)
plain_found s (FullOp k) = option_map (λ (it : FullData). it.simple) (get s.whole k)

-- the dictionaries of a slot's operation, if its kind has them
abbrev pub entries_found : OpArena → SlotKind → Option Entries
entries_found s (Free n) = None
entries_found s (Leading owner number) = None
entries_found s (InlineOp k) = None
entries_found s (ListOp k) = None
entries_found s (OpWithEntries k) = option_map (λ (it : WithEntries). it.entries) (get s.entered k)
entries_found s (FullOp k) = option_map (λ (it : FullData). it.entries) (get s.whole k)

-- whether the slot has a key
abbrev pub is_key : SlotKind → Bool
is_key (Free n) = false
is_key (Leading owner number) = false
is_key (InlineOp k) = true
is_key (ListOp k) = true
is_key (OpWithEntries k) = true
is_key (FullOp k) = true

-- the contents of a slot without a key
abbrev pub keyless_contents : SlotKind → Contents
keyless_contents (Free n) = no_contents
keyless_contents (Leading owner number) = head_contents owner number
keyless_contents (InlineOp k) = no_contents
keyless_contents (ListOp k) = no_contents
keyless_contents (OpWithEntries k) = no_contents
keyless_contents (FullOp k) = no_contents

-- what a slot keeps after its operation is freed
abbrev pub vacated_held : ℕ → SlotKind → SlotKind
vacated_held n (Free m) = Free n
vacated_held n (Leading owner number) = Leading owner number
vacated_held n (InlineOp k) = Free n
vacated_held n (ListOp k) = Free n
vacated_held n (OpWithEntries k) = Free n
vacated_held n (FullOp k) = Free n

-- what a free slot keeps with another next slot of the free list
abbrev pub respared : ℕ → SlotKind → SlotKind
respared n (Free m) = Free n
respared n (Leading owner number) = Leading owner number
respared n (InlineOp k) = InlineOp k
respared n (ListOp k) = ListOp k
respared n (OpWithEntries k) = OpWithEntries k
respared n (FullOp k) = FullOp k

-- the data under each key is the same
abbrev pub AllSame : {X : Type 0} → Slab X → Slab X → Type 0
AllSame s t = (q : ℕ) → get t q ≡ get s q

abbrev pub AllAlike : OpArena → OpArena → Type 0
AllAlike s t = (q : SlotKind) → found t q ≡ found s q

-- the data under key k of one slab is now under key j of another, which was vacant
pub record Moves {X : Type 0} (tells : X → Contents) (s t : Slab X) (u v : Slab WithEntries) (k j : ℕ) : Type 0 where
  pub free : get u j ≡ None
  pub own : option_map entered_contents (get v j) ≡ option_map tells (get s k)
  pub left : (q : ℕ) → (q ≡ k → ⊥) → get t q ≡ get s q
  pub others : (q : ℕ) → (q ≡ j → ⊥) → get v q ≡ get u q
  pub taken : get t k ≡ None

-- the data of h is removed
pub record Takes (s t : OpArena) (h : SlotKind) : Type 0 where
  pub others : (q : SlotKind) → (q ≡ h → ⊥) → found t q ≡ found s q
  pub vacant : is_key h ≡ true → found t h ≡ None

-- h has these contents now, and its key was vacant; the data under other keys is unchanged
pub record Adds (s t : OpArena) (h : SlotKind) (c : Contents) : Type 0 where
  pub key : is_key h ≡ true
  pub own : found t h ≡ Some c
  pub others : (q : SlotKind) → is_key q ≡ true → is_some (found s q) ≡ true → (found t q ≡ found s q) × (q ≡ h → ⊥)
  pub kept : (q : SlotKind) → is_key q ≡ true → is_some (found t q) ≡ true → (q ≡ h → ⊥) → is_some (found s q) ≡ true

-- the data of g is now that of h, with these contents; the data under other keys is unchanged, h is none of them, and
-- there is no other data
pub record Swaps (s t : OpArena) (g h : SlotKind) (c : Contents) : Type 0 where
  pub own : found t h ≡ Some c
  pub others : (q : SlotKind) → is_key q ≡ true → is_some (found s q) ≡ true → (q ≡ g → ⊥) → (found t q ≡ found s q) × (q ≡ h → ⊥)
  pub kept : (q : SlotKind) → is_key q ≡ true → is_some (found t q) ≡ true → (q ≡ h → ⊥) → (q ≡ g → ⊥) × (is_some (found s q) ≡ true)
