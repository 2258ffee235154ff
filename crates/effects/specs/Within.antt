-- The operations that a walk down a tree visits: each with the rest of its block.
use Rattle.std.specs.Prelude.{ℕ, zero, suc, List, [], ◌∷◌, length, Option, Some, None, option_map}
use Rattle.ir_event.specs.trees.Tree.{OpOf, OpsOf, no_ops, next, RegionsOf, no_regions, region, regions}
use Rattle.ir_event.specs.trees.Ids.{op_count, ops_ids}
use Rattle.ir_event.specs.tree_laws.Stands.{StepOf, OpWithPathOf, op_with_path}
use Rattle.ir_event.specs.tree_laws.Reads.{ops_at}

-- the operations after one in its block, given its path
abbrev pub trailing : {N T A : Type 0} → List (StepOf N T A) → OpsOf N T A
trailing [] = no_ops
trailing (a ∷ path) = a.rest

-- the operations, if there are some
abbrev pub some_ops : {N T A : Type 0} → Option (OpsOf N T A) → OpsOf N T A
some_ops None = no_ops
some_ops (Some os) = os

-- an operation with the operations after it
abbrev pub onward : {N T A : Type 0} → OpWithPathOf N T A → OpsOf N T A
onward s = next s.here (trailing s.path)

-- operation x with the operations after it, if there is an x
abbrev pub ops_from : {N T A : Type 0} → Option ℕ → OpOf N T A → OpsOf N T A
ops_from None t = no_ops
ops_from (Some x) t = some_ops (option_map onward (op_with_path x t))

-- the operations of the block of region r of operation p
abbrev pub list_at : {N T A : Type 0} → ℕ → ℕ → OpOf N T A → OpsOf N T A
list_at p r t = some_ops (ops_at p r t)

-- the regions of an operation, if there is one
abbrev pub regions_of : {N T A : Type 0} → Option (OpOf N T A) → RegionsOf N T A
regions_of None = no_regions
regions_of (Some o) = regions o

-- regions from number k on
abbrev pub regions_from : {N T A : Type 0} → ℕ → RegionsOf N T A → RegionsOf N T A
regions_from k no_regions = no_regions
regions_from zero (region g rs) = region g rs
regions_from (suc k) (region g rs) = regions_from k rs

-- the number of operations in a list, nested ones included, and the number at x
abbrev pub list_size : {N T A : Type 0} → OpsOf N T A → ℕ
list_size os = length (ops_ids os)

abbrev pub op_size : {N T A : Type 0} → Option (OpOf N T A) → ℕ
op_size None = 0
op_size (Some o) = op_count o
