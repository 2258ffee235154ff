-- Reads of an operation with the uses of its results.
use Rattle.std.specs.Prelude.{ℕ, ◌<◌, List, [], length, get_or}
use Rattle.ir_store_reads.specs.Using.{AreUses}
use Rattle.ir_store_reads.specs.trees.Tree.{Op, head}
use Rattle.ir_store_reads.specs.trees.declared.value.Value.{Value}
use Rattle.ir_store_reads.specs.trees.declared.value.Value.TheVariants.{Result}

-- the name, the operands, and the types of the results of an operation
abbrev pub lists_in : Op → ℕ × (List Value × List ℕ)
lists_in o = ((head o).name, ((head o).operands, (head o).results))

-- the uses of each result of operation x: each use once, and in any order
abbrev pub AreResultUses : ℕ → Op → List (List (ℕ × ℕ)) → Type 0
AreResultUses x t uses = (k : ℕ) → k < length uses → AreUses (Result x k) t (get_or uses k [])
