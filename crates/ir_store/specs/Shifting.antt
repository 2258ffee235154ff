-- The preconditions of a shift, and the new position in the slots.
use Rattle.std.specs.Prelude.{◌≡◌, ℕ, eqb, true, false, not, ◌&&◌, Bool, if◌then◌else◌, Option, Some, None, option_map, option_and_then}
use Rattle.ir_store_reads.specs.types.declared.refusal.Refusal.{Refusal}
use Rattle.ir_store_reads.specs.types.declared.refusal.Refusal.TheVariants.{NoSuchOp, NoSuchIndex, IsRoot, IntoItself, OtherTable, TooDeepHere}
use Rattle.ir_store_reads.specs.trees.declared.place.Place.{Place}
use Rattle.ir_store_reads.specs.trees.Tree.{Op, OpOf, HeadOf, head}
use Rattle.ir_store_reads.specs.trees.Ids.{find, has_id}
use Rattle.ir_store_reads.specs.types.Reasons.{first_reason}
use Rattle.ir_store_reads.specs.trees.Places.{shifted}
use Rattle.ir_store_reads.specs.tree_laws.Reads.{around}
use Rattle.ir_store_reads.specs.tree_laws.Tables.{table_of}
use Rattle.ir_store_reads.specs.tree_laws.Reasons.{unless, has_place, leads_inside, same_table, fits_around, levels_in}

-- operation x is in the tree and isn't the root; the place exists and isn't within x
pub record CanRelink (x : ℕ) (place : Place) (t : Op) : Type 0 where
  pub there : has_id x t ≡ true
  pub inner : eqb (head t).id x ≡ false
  pub point : has_place place t ≡ true
  pub outside : leads_inside place (find x t) ≡ false

-- the reason that operation x can't be moved to a place, without checks of the symbol table, of the nesting depth and
-- of dominance: x or the place's parent is missing; x is the root; the place doesn't exist; the place is within x
abbrev pub relink_reason : {N T A : Type 0} → ℕ → Place → OpOf N T A → Option Refusal
relink_reason x place t =
    unless (has_id x t && has_id place.parent t) NoSuchOp
    (unless (not (eqb (head t).id x)) IsRoot
    (unless (has_place place t) NoSuchIndex
    (unless (not (leads_inside place (find x t))) IntoItself None)))

-- the nearest operation whose name passes the test: the operation with head h, or else `near`, the nearest ancestor
abbrev pub near_table : {N T A : Type 0} → (N → Bool) → Option (Option ℕ) → Option (HeadOf N T A) → Option ℕ
near_table is_table near h = option_and_then (λ h. if is_table h.name then Some h.id else option_and_then (λ z. z) near) h

-- the nearest table, from operation x up
abbrev pub table_at : {N T A : Type 0} → (N → Bool) → ℕ → OpOf N T A → Option ℕ
table_at is_table x t = near_table is_table (table_of is_table x t) (option_map head (find x t))

-- the nesting depth of an operation that may be missing: 0 if it is
abbrev pub level : Option ℕ → ℕ
level None = 0
level (Some n) = n

-- the reason that operation x can't be shifted to a place, without a check of dominance: a reason against moving it;
-- another nearest table; too deep
abbrev pub unseen_reason : {N T A : Type 0} → (N → Bool) → ℕ → Place → OpOf N T A → Option Refusal
unseen_reason is_table x place t =
    first_reason (relink_reason x place t)
    (unless (same_table (table_of is_table x t) (table_of is_table x (shifted x place t))) OtherTable
    (unless (fits_around (levels_in (find x t)) (around place.parent t)) TooDeepHere None))
