-- The lists of blocks, in slots.
use Rattle.std.specs.Prelude.{◌≡◌, ◌<◌, ℕ, List, length, Option, option_and_then, slice_get}
use Rattle.ir_store_slots.specs.Lists.{home_at}
use Rattle.ir_store_slots.specs.Rows.{Row, row_at, head_in}

-- the head of the list of the block of region n of operation p, if there is such a block; `slot_map` maps ids to slots
abbrev pub block_in : List Row → (ℕ → Option ℕ) → ℕ → ℕ → Option ℕ
block_in slots slot_map p n = option_and_then (λ k. option_and_then head_in (slice_get (row_at slots k).shapes n)) (slot_map p)

-- node k isn't a head, so it may be an item of a list
pub record CanBeItem (homes : List ℕ) (k : ℕ) : Type 0 where
  pub inside : k < length homes
  pub other : home_at homes k ≡ k → ⊥
