-- The last operations, in pre-order.
use Rattle.std.specs.Prelude.{◌≡◌, ℕ, List, [], ◌∷◌, ◌++◌, true, Option, Some, None}
use Rattle.ir_store_reads.specs.trees.Tree.{OpOf}
use Rattle.ir_store_reads.specs.trees.Ids.{ids, find, has_id}

-- the ids of an operation and those inside it, in pre-order; none if the operation is missing
abbrev pub ids_in : {N T A : Type 0} → Option (OpOf N T A) → List ℕ
ids_in None = []
ids_in (Some o) = ids o

-- operation y is inside operation x, and the ids of y and of the operations inside it are the last ids of x
pub record IsLastIn {N T A : Type 0} (x y : ℕ) (t : OpOf N T A) : Type 0 where
  pub there : has_id y t ≡ true
  pub preceding : ℕ
  pub before : List ℕ
  pub is : ids_in (find x t) ≡ preceding ∷ (before ++ ids_in (find y t))
