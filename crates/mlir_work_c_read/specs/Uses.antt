-- Reads of the uses of a value.
use Rattle.std.specs.Prelude.{◌≡◌, ℕ, List, length, map}
use Rattle.ir_event.specs.store.Using.{AreUses}
use Rattle.ir_event.specs.trees.Tree.{Op}
use Rattle.ir_event.specs.trees.declared.value.Value.{Value}
use Rattle.mlir_work_c_read.specs.declared.numbers.UseNumbers.{UseNumbers}
use Rattle.mlir_work_c_read.specs.Filled.{over}

-- a use as a C struct
abbrev pub use_numbers : ℕ × ℕ → UseNumbers
use_numbers u = record { operation = u.0; operand = u.1 }

-- the uses of a value, each once and in any order, are written, and their number is returned
pub record WritesUses (v : Value) (t : Op) (old new : List UseNumbers) (count : ℕ) : Type 0 where
  pub uses : List (ℕ × ℕ)
  pub are : AreUses v t uses
  pub count_is : count ≡ length uses
  pub written : new ≡ over (map use_numbers uses) old
