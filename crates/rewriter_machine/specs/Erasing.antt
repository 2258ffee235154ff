-- Erasing an operation, one operation at a time.
use Rattle.std.specs.Prelude.{ℕ, List, [], ◌∷◌, reverse, Option, Some, None}
use Rattle.ir_event.specs.trees.Tree.{OpOf}
use Rattle.ir_event.specs.trees.Ids.{ids, find}
use Rattle.ir_event.specs.trees.Places.{without}

-- the ids of an operation and those inside it, in pre-order; none if it is missing
abbrev pub ids_in : {N T A : Type 0} → Option (OpOf N T A) → List ℕ
ids_in None = []
ids_in (Some o) = ids o

-- operation x and those inside it, the last in pre-order first
abbrev pub erase_order : {N T A : Type 0} → ℕ → OpOf N T A → List ℕ
erase_order x t = reverse (ids_in (find x t))

-- a tree without some operations, taken out one after another
abbrev pub all_taken : {N T A : Type 0} → List ℕ → OpOf N T A → OpOf N T A
all_taken [] t = t
all_taken (y ∷ ys) t = all_taken ys (without y t)
