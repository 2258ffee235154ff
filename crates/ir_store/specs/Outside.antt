-- The users of the values of an operation, and of the operations inside it, when the operation is taken out.
use Rattle.std.specs.Prelude.{ℕ, zero, suc, ◌+◌, List, [], ◌∷◌, length, Bool, true, false, ◌&&◌, Some, None}
use Rattle.std.specs.List.{list_all}
use Rattle.ir_store_reads.specs.Lists.{list_at}
use Rattle.ir_store_reads.specs.trees.Tree.{Op}
use Rattle.ir_store_reads.specs.trees.Ids.{has_id}
use Rattle.ir_store_reads.specs.trees.Places.{without}
use Rattle.ir_store_reads.specs.Rows.{Row, RegionShape, row_at}
use Rattle.ir_store_reads.specs.Using.{use_in}

-- whether the user at a node of the use lists stays if operation x is taken out
abbrev pub leaves_use : List Row → List (ℕ × ℕ) → ℕ → Op → ℕ → Bool
leaves_use slots cells x t u = has_id (use_in slots cells u).0 (without x t)

-- whether all nodes in the lists of n heads, from b on, pass a test
abbrev pub lists_pass : List (List ℕ) → (ℕ → Bool) → ℕ → ℕ → Bool
lists_pass lists p b zero = true
lists_pass lists p b (suc n) = list_all p (list_at lists b) && lists_pass lists p (b + 1) n

-- whether the arguments of each block pass a test of their first head and their number, and each operation in the
-- blocks passes a test of its slot
abbrev pub shapes_keep : List Row → List (List ℕ) → (ℕ → ℕ → Bool) → (ℕ → Bool) → List RegionShape → Bool
shapes_keep slots lists f p [] = true
shapes_keep slots lists f p (None ∷ xs) = shapes_keep slots lists f p xs
shapes_keep slots lists f p (Some a ∷ xs) = f (row_at slots a.1).values (length a.0) && (list_all p (list_at lists a.1) && shapes_keep slots lists f p xs)

-- whether the values of the operation of slot k and of those inside it pass the test; false if the nesting depth
-- reaches n
abbrev pub slot_keeps : List Row → List (List ℕ) → (ℕ → ℕ → Bool) → ℕ → ℕ → Bool
slot_keeps slots lists f zero k = false
slot_keeps slots lists f (suc n) k =
    (row_at slots k).live && (f (row_at slots k).values (length (row_at slots k).head.results) && shapes_keep slots lists f (slot_keeps slots lists f n) (row_at slots k).shapes)
