-- The remaining uses of a value.
use Rattle.std.specs.Prelude.{ℕ, zero, suc, ◌+◌, List, [], ◌∷◌, map, Option, Some, None}
use Rattle.ir_store_slots.specs.Lists.{Lists, IsItem, list_at, home_at}
use Rattle.ir_store_slots.specs.Rows.{Row}
use Rattle.ir_store_slots.specs.Using.{use_in, uses_at}
use Rattle.ir_store_slots.specs.Walks.{from_slot}

-- the uses of the nodes of a list, from one node on
abbrev pub uses_left : List Row → List (ℕ × ℕ) → Lists → Option ℕ → List (ℕ × ℕ)
uses_left slots cells chains None = []
uses_left slots cells chains (Some n) = map (use_in slots cells) (from_slot (Some n) (list_at chains.lists (home_at chains.homes n)))

-- an optional node is an item of a list
abbrev pub IsNode : List ℕ → Option ℕ → Type 0
IsNode homes None = Unit {0}
IsNode homes (Some n) = IsItem homes n

-- the uses in the lists of n heads from b on, a list for each head
abbrev pub uses_of_each : List Row → List (ℕ × ℕ) → List (List ℕ) → ℕ → ℕ → List (List (ℕ × ℕ))
uses_of_each slots cells lists b zero = []
uses_of_each slots cells lists b (suc n) = uses_at slots cells lists (Some b) ∷ uses_of_each slots cells lists (b + 1) n
