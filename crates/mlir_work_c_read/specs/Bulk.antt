-- Reads of many operations, and of many values.
use Rattle.std.specs.Prelude.{◌≡◌, ℕ, ◌+◌, List, [], ◌∷◌, ◌++◌, length, map, min, flat_map, Option, Some, None}
use Rattle.ir_event.specs.store.Using.{AreUses}
use Rattle.ir_event.specs.trees.Tree.{Op, head}
use Rattle.ir_event.specs.trees.Ids.{find}
use Rattle.ir_event.specs.trees.declared.value.Value.{Value}
use Rattle.ir_event.specs.tree_laws.Values.{type_of_value}
use Rattle.mlir_work_c_read.specs.declared.numbers.Counts.{Counts}
use Rattle.mlir_work_c_read.specs.declared.numbers.Head.{Head}
use Rattle.mlir_work_c_read.specs.declared.numbers.ValueNumbers.{ValueNumbers}
use Rattle.mlir_work_c_read.specs.declared.numbers.ValueUse.{ValueUse}
use Rattle.mlir_work_c_read.specs.Filled.{over}
use Rattle.mlir_work_c_read.specs.Numbers.{no_number, number_of, numbers_of, value_of}
use Rattle.mlir_work_c_read.specs.Operations.{counts}

abbrev pub no_counts : Counts
no_counts = record { operands = 0; results = 0; properties = 0; attributes = 0; regions = 0 }

-- the name and the counts of an operation, if there is one
abbrev pub head_in : Option Op → Head
head_in None = record { name = no_number; counts = no_counts }
head_in (Some o) = record { name = (head o).name; counts = counts o }

-- the name and the counts of operation x
abbrev pub head_of : Op → ℕ → Head
head_of t x = head_in (find x t)

-- the operands of an operation, if there is one
abbrev pub operands_in : Option Op → List Value
operands_in None = []
operands_in (Some o) = (head o).operands

-- the operands of operation x, as C structs
abbrev pub operands_of : Op → ℕ → List ValueNumbers
operands_of t x = map numbers_of (operands_in (find x t))

-- the operands of operations, one operation after the other
abbrev pub all_operands : Op → List ℕ → List ValueNumbers
all_operands t xs = flat_map (operands_of t) xs

-- the type of a value, if the module has the value
abbrev pub type_number : Op → ValueNumbers → ℕ
type_number t v = number_of (type_of_value (value_of v) t)

-- a use of value k
abbrev pub use_of : ℕ → ℕ × ℕ → ValueUse
use_of k u = record { value = k; operation = u.0; operand = u.1 }

-- the uses of values, one value after the other, the first with index k: each use once, and in any order
abbrev pub AreUsesFrom : Op → ℕ → List ValueNumbers → List ValueUse → Type 0
AreUsesFrom t k [] items = items ≡ []
AreUsesFrom t k (v ∷ vs) items =
    (us : List (ℕ × ℕ)) × (rest : List ValueUse)
    × AreUses (value_of v) t us × AreUsesFrom t (k + 1) vs rest × (items ≡ map (use_of k) us ++ rest)

-- items are written, as many as there is space for, and the count of the written ones is returned
pub record WritesFirst {A : Type 0} (items old new : List A) (count : ℕ) : Type 0 where
  pub written : new ≡ over items old
  pub count_is : count ≡ min (length items) (length old)

-- the uses of values are written
abbrev pub WritesValueUses : List ValueNumbers → Op → List ValueUse → List ValueUse → ℕ → Type 0
WritesValueUses vs t old new count = (items : List ValueUse) × AreUsesFrom t 0 vs items × WritesFirst items old new count
