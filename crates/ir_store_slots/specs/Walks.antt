-- Tests of the slots in the lists of blocks.
use Rattle.std.specs.Prelude.{ℕ, zero, suc, List, [], ◌∷◌, eqb, true, false, ◌&&◌, Bool, if◌then◌else◌, Option, Some, None}
use Rattle.std.specs.List.{list_all}
use Rattle.ir_store_lists.specs.Lists.{list_at}
use Rattle.ir_store_slots.specs.Rows.{Row, RegionShape, row_at}

-- all slots in the lists of the blocks pass a test
abbrev pub shapes_pass : List (List ℕ) → (ℕ → Bool) → List RegionShape → Bool
shapes_pass lists p [] = true
shapes_pass lists p (None ∷ xs) = shapes_pass lists p xs
shapes_pass lists p (Some a ∷ xs) = list_all p (list_at lists a.1) && shapes_pass lists p xs

-- whether the operation of slot k has fewer levels inside it than n
abbrev pub slot_fits : List Row → List (List ℕ) → ℕ → ℕ → Bool
slot_fits slots lists zero k = false
slot_fits slots lists (suc n) k = (row_at slots k).live && shapes_pass lists (slot_fits slots lists n) (row_at slots k).shapes

-- a list from a slot on
abbrev pub from_slot : Option ℕ → List ℕ → List ℕ
from_slot None ks = []
from_slot (Some k) [] = []
from_slot (Some k) (q ∷ ks) = if eqb q k then q ∷ ks else from_slot (Some k) ks
