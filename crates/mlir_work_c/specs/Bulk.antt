-- The results of calls that read many operations or values, and report rows.
use Rattle.std.specs.Prelude.{◌≡◌, ℕ, nat_lt, ◌⊎◌, Bool, true, false, List, length, map, min, Option, Some, None}
use Rattle.ir_event.specs.types.declared.refusal.Refusal.{Refusal}
use Rattle.ir_event.specs.types.declared.refusal.Refusal.TheVariants.{NoSuchKind}
use Rattle.ir_event.specs.declared.row.Row.{Row}
use Rattle.ir_event.specs.Rows.{rows_meaning}
use Rattle.rewriter.specs.Machine.{Done, Goes, Nothing, Refused, Report, Rows}
use Rattle.mlir_work_c_read.specs.declared.numbers.CellNumbers.{CellNumbers}
use Rattle.mlir_work_c_read.specs.declared.numbers.Head.{Head}
use Rattle.mlir_work_c_read.specs.declared.numbers.RecordItem.{RecordItem}
use Rattle.mlir_work_c_read.specs.declared.numbers.ValueNumbers.{ValueNumbers}
use Rattle.mlir_work_c_read.specs.declared.numbers.ValueUse.{ValueUse}
use Rattle.mlir_work_c_read.specs.Bulk.{WritesFirst, WritesValueUses, all_operands, head_of, type_number}
use Rattle.mlir_work_c_read.specs.Filled.{over}
use Rattle.mlir_work_c_read.specs.Records.{WritesRecords}
use Rattle.mlir_work_c_read.specs.Rows.{rows_numbers}
use Rattle.mlir_work_c.specs.Answers.{closed, counted, refused}
use Rattle.mlir_work_c.specs.Queries.{context_of, tree_of}
use Rattle.mlir_work_c.specs.Stepped.{most_counted, state}
use Rattle.mlir_work_c.specs.declared.answer.Answer.{Answer}
use Rattle.mlir_work_c.specs.declared.session.Session.{Session}

-- a closed handle writes nothing
abbrev pub WritesNone : {A : Type 0} → List A → List A → ℕ → Type 0
WritesNone old new count = (count ≡ 0) × (new ≡ old)

abbrev pub WritesHeadsOf : List ℕ → Option Session → List Head → List Head → ℕ → Type 0
WritesHeadsOf xs None old new count = WritesNone old new count
WritesHeadsOf xs (Some s) old new count = WritesFirst (map (head_of (tree_of s)) xs) old new count

abbrev pub WritesOperandsOf : List ℕ → Option Session → List ValueNumbers → List ValueNumbers → ℕ → Type 0
WritesOperandsOf xs None old new count = WritesNone old new count
WritesOperandsOf xs (Some s) old new count = WritesFirst (all_operands (tree_of s) xs) old new count

abbrev pub WritesTypesOf : List ValueNumbers → Option Session → List ℕ → List ℕ → ℕ → Type 0
WritesTypesOf vs None old new count = WritesNone old new count
WritesTypesOf vs (Some s) old new count = WritesFirst (map (type_number (tree_of s)) vs) old new count

abbrev pub WritesValueUsesOf : List ValueNumbers → Option Session → List ValueUse → List ValueUse → ℕ → Type 0
WritesValueUsesOf vs None old new count = WritesNone old new count
WritesValueUsesOf vs (Some s) old new count = WritesValueUses vs (tree_of s) old new count

abbrev pub WritesRecordsOf : List ℕ → Option Session → List RecordItem → List RecordItem → ℕ → Type 0
WritesRecordsOf xs None old new count = WritesNone old new count
WritesRecordsOf xs (Some s) old new count = WritesRecords xs (tree_of s) old new count

-- the rows of a report are written as cells, and the answer has their number; a refused report writes nothing
abbrev pub ReportsIn : ℕ → Session → List CellNumbers → List CellNumbers → Answer → Type 0
ReportsIn kind s old new a =
    ((rows : List Row) × Goes (state s) (Report kind) Done (Rows (rows_meaning (context_of s) rows)) (state s)
    × (new ≡ over (rows_numbers rows) old) × (a ≡ counted (min (length (rows_numbers rows)) most_counted)))
    ⊎ ((refusal : Refusal) × Goes (state s) (Report kind) (Refused refusal) Nothing (state s)
    × (new ≡ old) × (a ≡ refused refusal))

-- a number of a kind is below 256
abbrev pub ReportsOf : Bool → ℕ → Session → List CellNumbers → List CellNumbers → Answer → Type 0
ReportsOf true kind s old new a = ReportsIn kind s old new a
ReportsOf false kind s old new a = (new ≡ old) × (a ≡ refused NoSuchKind)

abbrev pub ReportGoes : ℕ → Option Session → List CellNumbers → List CellNumbers → Answer → Type 0
ReportGoes kind None old new a = (a ≡ closed) × (new ≡ old)
ReportGoes kind (Some s) old new a = ReportsOf (nat_lt kind 256) kind s old new a
