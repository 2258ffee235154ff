-- Queries on a handle by number.
use Rattle.std.specs.Prelude.{◌≡◌, ℕ, List, [], Bool, true, false, Option, Some, None}
use Rattle.ir_event.specs.trees.Tree.{head}
use Rattle.ir_event.specs.trees.Ids.{has_id}
use Rattle.ir_event.specs.trees.Uses.{uses_of}
use Rattle.ir_event.specs.trees.declared.value.Value.{Value}
use Rattle.ir_event.specs.store.Using.{is_use}
use Rattle.ir_event.specs.tree_laws.Reads.{first_at, last_at, next_of, parent_of, prev_of}
use Rattle.ir_event.specs.tree_laws.Changes.{operand_at}
use Rattle.mlir_work_c.specs.Queries.{tree_of}
use Rattle.mlir_work_c.specs.declared.session.Session.{Session}
use Rattle.mlir_work_c_read.specs.Numbers.{numbers_of}
use Rattle.mlir_work_c_read.specs.declared.numbers.UseNumbers.{UseNumbers}
use Rattle.mlir_work_c_read.specs.declared.numbers.ValueNumbers.{ValueNumbers}

abbrev pub has_in : ℕ → Session → Bool
has_in op s = has_id op (tree_of s)

abbrev pub root_in : Session → Option ℕ
root_in s = Some (head (tree_of s)).id

abbrev pub parent_in : ℕ → Session → Option ℕ
parent_in op s = parent_of op (tree_of s)

abbrev pub next_in : ℕ → Session → Option ℕ
next_in op s = next_of op (tree_of s)

abbrev pub prev_in : ℕ → Session → Option ℕ
prev_in op s = prev_of op (tree_of s)

abbrev pub first_in : ℕ → ℕ → Session → Option ℕ
first_in op region s = first_at op region (tree_of s)

abbrev pub last_in : ℕ → ℕ → Session → Option ℕ
last_in op region s = last_at op region (tree_of s)

abbrev pub operand_in : ℕ → ℕ → Session → Option Value
operand_in op place s = operand_at op place (tree_of s)

-- whether the handle's session satisfies a test; a closed handle doesn't
abbrev pub is_requested : (Session → Bool) → Option Session → Bool
is_requested look None = false
is_requested look (Some s) = look s

-- the result of a query on the handle's session; a closed handle has none
abbrev pub requested : {A : Type 0} → (Session → Option A) → Option Session → Option A
requested look None = None
requested look (Some s) = look s

-- whether there is a value, and its struct; without a value the struct doesn't change
abbrev pub IsOptionalValue : Option Value → ValueNumbers → ValueNumbers → Bool → Type 0
IsOptionalValue None old new found = (found ≡ false) × (new ≡ old)
IsOptionalValue (Some value) old new found = (found ≡ true) × (new ≡ numbers_of value)

-- the uses of a value in the handle's session; a closed handle has none
abbrev pub uses_in : Value → Option Session → List (ℕ × ℕ)
uses_in value None = []
uses_in value (Some s) = uses_of value (tree_of s)

-- one of these uses, if there is one; without a use the struct doesn't change
abbrev pub WritesUse : List (ℕ × ℕ) → UseNumbers → UseNumbers → Bool → Type 0
WritesUse uses old new true = is_use new.operation new.operand uses ≡ true
WritesUse uses old new false = (uses ≡ []) × (new ≡ old)
