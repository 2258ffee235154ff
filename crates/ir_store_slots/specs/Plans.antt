-- The reads of the slots before an edit writes.
use Rattle.std.specs.Prelude.{ℕ, List, [], ◌∷◌, eqb, nat_lt, length, not, ◌&&◌, Bool, true, false, if◌then◌else◌, Option, Some, None, Result, Ok, Err}
use Rattle.ir_store_arena.specs.types.declared.refusal.Refusal.{Refusal}
use Rattle.ir_store_arena.specs.types.declared.refusal.Refusal.TheVariants.{NoSuchOp, NoSuchIndex, IsRoot, NotEmpty}
use Rattle.ir_store_lists.specs.Lists.{list_at, IsHead}
use Rattle.ir_store_arena.specs.trees.Tree.{OpOf, head}
use Rattle.ir_store_arena.specs.trees.Ids.{has_id, find}
use Rattle.ir_store_slots.specs.Rows.{Row, RegionShape, row_at}
use Rattle.ir_store_arena.specs.tree_laws.Reasons.{unless, holds_none, operand_reason}

abbrev pub is_nil : List ℕ → Bool
is_nil [] = true
is_nil (k ∷ ks) = false

-- the lists of the blocks have heads, and are empty
abbrev pub AllHeads : List ℕ → List RegionShape → Type 0
AllHeads homes [] = Unit {0}
AllHeads homes (None ∷ xs) = AllHeads homes xs
AllHeads homes (Some a ∷ xs) = IsHead homes a.1 × AllHeads homes xs

abbrev pub all_bare : List (List ℕ) → List RegionShape → Bool
all_bare lists [] = true
all_bare lists (None ∷ xs) = all_bare lists xs
all_bare lists (Some a ∷ xs) = is_nil (list_at lists a.1) && all_bare lists xs

-- the slot of an operation that isn't the root and whose blocks are empty
abbrev pub leaf_in : List Row → List (List ℕ) → ℕ → Option ℕ → Result ℕ Refusal
leaf_in slots lists root None = Err NoSuchOp
leaf_in slots lists root (Some k) = if eqb k root then Err IsRoot else (if all_bare lists (row_at slots k).shapes then Ok k else Err NotEmpty)

-- the reason against taking out operation x, without a check of its uses
abbrev pub cut_reason : {N T A : Type 0} → ℕ → OpOf N T A → Option Refusal
cut_reason x t =
    unless (has_id x t) NoSuchOp
    (unless (not (eqb (head t).id x)) IsRoot
    (unless (holds_none (find x t)) NotEmpty None))

-- the slot of an operation that has operand j
abbrev pub operand_in : List Row → ℕ → Option ℕ → Result ℕ Refusal
operand_in slots j None = Err NoSuchOp
operand_in slots j (Some k) = if nat_lt j (length (row_at slots k).head.operands) then Ok k else Err NoSuchIndex

-- the reason against setting operand j of operation x, without a check of the new value
abbrev pub write_reason : {N T A : Type 0} → ℕ → ℕ → OpOf N T A → Option Refusal
write_reason x j t = operand_reason j None (find x t)
