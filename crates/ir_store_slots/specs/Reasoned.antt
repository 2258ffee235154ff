-- The results of the calls that read the use lists.
use Rattle.std.specs.Prelude.{ℕ, List, if◌then◌else◌, Option, Some, None, Result, Ok, Err}
use Rattle.ir_store_arena.specs.types.declared.refusal.Refusal.{Refusal}
use Rattle.ir_store_arena.specs.types.declared.refusal.Refusal.TheVariants.{HasUses, NoSuchValue}
use Rattle.ir_store_arena.specs.trees.declared.value.Value.{Value}
use Rattle.ir_store_arena.specs.trees.Tree.{OpOf}
use Rattle.ir_store_arena.specs.trees.Ids.{find}
use Rattle.ir_store_arena.specs.tree_laws.Values.{has_value}
use Rattle.ir_store_arena.specs.tree_laws.Reasons.{operand_reason, unless}
use Rattle.ir_store_slots.specs.Rows.{Row}
use Rattle.ir_store_slots.specs.Index.{row_idle}

-- a slot whose values have no uses
abbrev pub idle_in : List Row → List (List ℕ) → Result ℕ Refusal → Result ℕ Refusal
idle_in slots lists (Err e) = Err e
idle_in slots lists (Ok k) = if row_idle slots lists k then Ok k else Err HasUses

-- a slot, and the head of the use list of a value
abbrev pub with_head : Result ℕ Refusal → Option ℕ → Result (ℕ × ℕ) Refusal
with_head (Err e) o = Err e
with_head (Ok k) None = Err NoSuchValue
with_head (Ok k) (Some h) = Ok (k, h)

-- the reason against setting operand j of operation x to v, without a check of dominance
abbrev pub rewire_reason : {N T A : Type 0} → ℕ → ℕ → Value → OpOf N T A → Option Refusal
rewire_reason x j v t = operand_reason j (unless (has_value v t) NoSuchValue None) (find x t)
