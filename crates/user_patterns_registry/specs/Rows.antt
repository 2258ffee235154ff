-- The printed result of a check.
use Rattle.std.specs.Prelude.{ℕ, Bool, false, ◌==◌, if◌then◌else◌, List, [], ◌∷◌, ◌++◌, codes, map, Option, Some, None, option_map}
use Rattle.std.specs.Fmt.{decimal, signed_decimal}
use Rattle.ir_types.specs.declared.bits.Bits.{Bits}
use Rattle.ir_types.specs.declared.bits.BitsKind.{BitsKind}
use Rattle.ir_types.specs.declared.bits.BitsKind.TheVariants as kind
use Rattle.ir_types.specs.Bits.{width_of}
use Rattle.ir_types.specs.Readings.{signed_of}
use Rattle.dialects_int.specs.Folds.{known_of}
use Rattle.user_patterns_check.specs.Outcomes.{Outcome}
use Rattle.user_patterns_claims.specs.declared.assignment.Refutation.{Refutation}
use Rattle.user_patterns_registry.specs.declared.check_result.Counterexample.{Counterexample}
use Rattle.user_patterns_registry.specs.declared.check_result.CheckSummary.{CheckSummary}
use Rattle.user_patterns_registry.specs.declared.check_result.CheckSummary.TheVariants as said
use Rattle.user_patterns_registry.specs.declared.rows.NamedVariable.{NamedVariable}

abbrev pub kind_text : BitsKind → List ℕ
kind_text (kind.Int w) = 105 ∷ decimal w
kind_text kind.Index = codes "index"

abbrev pub is_truth : BitsKind → Bool
is_truth (kind.Int w) = w == 1
is_truth kind.Index = false

abbrev pub truth_text : ℕ → List ℕ
truth_text v = if v == 0 then codes "false" else codes "true"

-- a value as an attribute: a signed number with its type, or a word for `i1`
abbrev pub value_text : BitsKind → ℕ → List ℕ
value_text k v = if is_truth k then truth_text v else (signed_decimal (signed_of (width_of k) v) ++ (codes " : " ++ kind_text k))

abbrev pub outcome_text : Option Outcome → List ℕ
outcome_text None = codes "undefined"
outcome_text (Some None) = codes "poison"
outcome_text (Some (Some v)) = value_text v.0 v.1

-- a row: the name, the outcome and the end of the line
abbrev pub row_text : List ℕ → Option Outcome → List ℕ
row_text name v = name ++ (32 ∷ (outcome_text v ++ 10 ∷ []))

-- a variable: a value, printed with `%`, or a number
abbrev pub Variable : Type 0
Variable = Bool × List ℕ

abbrev pub name_text : Variable → List ℕ
name_text v = if v.0 then 37 ∷ v.1 else v.1

abbrev pub named_view : NamedVariable → Variable
named_view n = (n.is_value, n.name.items)

abbrev pub named_views : List NamedVariable → List Variable
named_views ns = map named_view ns

-- a row for each variable that has a value
abbrev pub values_text : List Variable → List Outcome → List ℕ
values_text [] os = []
values_text (v ∷ vs) [] = []
values_text (v ∷ vs) (o ∷ os) = row_text (name_text v) (Some o) ++ values_text vs os

abbrev pub seen : Option (Option Bits) → Option Outcome
seen o = option_map known_of o

-- the report rows of a counterexample: the variables, and the results of both sides
abbrev pub rows_text : List Variable → Counterexample → List ℕ
rows_text vs c = values_text vs (map known_of c.shown.items) ++ (row_text (codes "old") (seen c.old) ++ row_text (codes "new") (seen c.new))

-- an outcome of a variable: a value, or poison with its type
abbrev pub input_text : BitsKind → Outcome → List ℕ
input_text k None = codes "poison : " ++ kind_text k
input_text k (Some v) = value_text v.0 v.1

abbrev pub input_row : Variable → BitsKind → Outcome → List ℕ
input_row v k o = name_text v ++ (32 ∷ (input_text k o ++ 10 ∷ []))

-- a row for each variable that has a kind and an outcome
abbrev pub inputs_text : List Variable → List BitsKind → List Outcome → List ℕ
inputs_text [] ks os = []
inputs_text (v ∷ vs) [] os = []
inputs_text (v ∷ vs) (k ∷ ks) [] = []
inputs_text (v ∷ vs) (k ∷ ks) (o ∷ os) = input_row v k o ++ inputs_text vs ks os

-- the report rows of a counterexample that may have poison
abbrev pub refutation_text : List Variable → Refutation → List ℕ
refutation_text vs r =
    inputs_text vs r.assignment.value_types.items (map known_of r.assignment.outcomes.items)
    ++ (row_text (codes "old") (seen r.old) ++ row_text (codes "new") (seen r.new))

-- the printed summary of a check
abbrev pub said_text : CheckSummary → List ℕ
said_text (said.Holds w) = codes "holds " ++ decimal w
said_text said.AllWidths = codes "holds"
said_text (said.Vacuous w) = codes "empty " ++ decimal w
said_text (said.Fails w) = codes "fails " ++ decimal w
said_text (said.Sampled w) = codes "unrefuted " ++ decimal w
