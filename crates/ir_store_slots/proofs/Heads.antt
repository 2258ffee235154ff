-- The heads of the values of live slots.
use Rattle.std.proofs.Common.{◌≡◌, ℕ, List, Bool, true, false, Option, Some, None}
use Rattle.std.specs.Prelude.{option_and_then, if◌then◌else◌}
use Rattle.ir_store_arena.specs.trees.declared.value.Value.{Value}
use Rattle.ir_store_arena.specs.trees.Frames.{owner_of}
use Rattle.ir_store_slots.specs.Rows.{Row, row_at, live_slot, if_live}
use Rattle.ir_store_slots.specs.Index.{slot_head, value_head}

-- a value of an operation with a live slot has a head
pub live_head : (slots : List Row) (keys : ℕ → Option ℕ) (v : Value) (h : ℕ) → value_head slots (live_slot slots keys) v ≡ Some h → value_head slots keys v ≡ Some h
live_head slots keys v h e = go (keys (owner_of v).0) e
  where
    go : (o : Option ℕ) → option_and_then (slot_head slots v) (if_live slots o) ≡ Some h → option_and_then (slot_head slots v) o ≡ Some h
    go None f = absurd cc
    go (Some q) f = test (row_at slots q).live f
      where
        test : (b : Bool) → option_and_then (slot_head slots v) (if b then Some q else None) ≡ Some h → slot_head slots v q ≡ Some h
        test true g = g
        test false g = absurd cc
