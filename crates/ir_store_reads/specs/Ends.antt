-- The last slots of blocks.
use Rattle.std.specs.Prelude.{ℕ, List, [], ◌∷◌, Option, None, Some}
use Rattle.ir_store_slots.specs.Lists.{last_of, list_at}
use Rattle.ir_store_slots.specs.trees.Ids.{first_of}
use Rattle.ir_store_slots.specs.Rows.{RegionShape}

-- the last slot of a region's block, or another slot if it has none
abbrev pub later : List (List ℕ) → Option ℕ → RegionShape → Option ℕ
later lists other None = other
later lists other (Some a) = first_of (last_of None (list_at lists a.1)) other

-- the last slot of the last nonempty block, or another slot if all are empty
abbrev pub last_in : List (List ℕ) → Option ℕ → List RegionShape → Option ℕ
last_in lists other [] = other
last_in lists other (x ∷ xs) = last_in lists (later lists other x) xs
