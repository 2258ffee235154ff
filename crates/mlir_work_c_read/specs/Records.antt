-- Records of operations: what an operation has, with the types and the uses of its results.
use Rattle.std.specs.Prelude.{◌≡◌, ℕ, ◌+◌, List, [], ◌∷◌, ◌++◌, get_or, length, map, min, Option, Some, None}
use Rattle.ir_event.specs.store.Using.{AreUses}
use Rattle.ir_event.specs.trees.Tree.{Op, head}
use Rattle.ir_event.specs.trees.Ids.{find}
use Rattle.ir_event.specs.trees.declared.value.Value.{Value}
use Rattle.ir_event.specs.trees.declared.value.Value.TheVariants as value
use Rattle.mlir_work_c_read.specs.declared.numbers.RecordItem.{RecordItem}
use Rattle.mlir_work_c_read.specs.Bulk.{WritesFirst, operands_in}
use Rattle.mlir_work_c_read.specs.Filled.{WritesFrom}
use Rattle.mlir_work_c_read.specs.Numbers.{no_region}

-- a count in 32 bits: no module has as many uses
abbrev pub few : ℕ → ℕ
few n = min n 4294967295

-- the item of an operation that isn't in the module
abbrev pub no_operation : RecordItem
no_operation = record { first = 4294967295; second = 0; third = 0 }

-- the name of an operation, and how many operands and results it has
abbrev pub operation_item : Option Op → RecordItem
operation_item None = no_operation
operation_item (Some o) = record { first = (head o).name; second = length (head o).operands; third = length (head o).results }

-- an operand
abbrev pub operand_item : Value → RecordItem
operand_item (value.Result op place) = record { first = op; second = no_region; third = place }
operand_item (value.Arg op region place) = record { first = op; second = region; third = place }

-- the type of a result, and how many uses it has
abbrev pub result_item : ℕ → ℕ → RecordItem
result_item ty count = record { first = ty; second = few count; third = 0 }

-- a use
abbrev pub use_item : ℕ × ℕ → RecordItem
use_item u = record { first = u.0; second = u.1; third = 0 }

-- the types of the results of an operation, if there is one
abbrev pub results_in : Option Op → List ℕ
results_in None = []
results_in (Some o) = (head o).results

-- the results of operation x from result k on, by their types: each result, and then its uses, each use once and in any
-- order
abbrev pub AreResults : ℕ → Op → ℕ → List ℕ → List RecordItem → Type 0
AreResults x t k [] items = items ≡ []
AreResults x t k (ty ∷ tys) items =
    (uses : List (ℕ × ℕ)) × (rest : List RecordItem)
    × AreUses (value.Result x k) t uses × AreResults x t (k + 1) tys rest
    × (items ≡ (result_item ty (length uses) ∷ map use_item uses) ++ rest)

-- the record of operation x: the operation, its operands, and its results with their uses
abbrev pub IsRecord : ℕ → Op → List RecordItem → Type 0
IsRecord x t items =
    (results : List RecordItem) × AreResults x t 0 (results_in (find x t)) results
    × (items ≡ operation_item (find x t) ∷ map operand_item (operands_in (find x t)) ++ results)

-- the records of operations, one operation after the other
abbrev pub AreRecords : Op → List ℕ → List RecordItem → Type 0
AreRecords t [] items = items ≡ []
AreRecords t (x ∷ xs) items =
    (one : List RecordItem) × (rest : List RecordItem) × IsRecord x t one × AreRecords t xs rest × (items ≡ one ++ rest)

-- results from result k on, by their types and by the uses of each result: each result, and then its uses
abbrev pub result_items : List (List (ℕ × ℕ)) → ℕ → List ℕ → List RecordItem
result_items uses k [] = []
result_items uses k (ty ∷ tys) =
    (result_item ty (length (get_or uses k [])) ∷ map use_item (get_or uses k [])) ++ result_items uses (k + 1) tys

-- the record of operation x is written from a place on
abbrev pub WritesRecord : ℕ → Op → ℕ → List RecordItem → List RecordItem → ℕ → Type 0
WritesRecord x t at old new end = (items : List RecordItem) × IsRecord x t items × WritesFrom items at old new end

-- the records of operations are written
abbrev pub WritesRecords : List ℕ → Op → List RecordItem → List RecordItem → ℕ → Type 0
WritesRecords xs t old new count = (items : List RecordItem) × AreRecords t xs items × WritesFirst items old new count
