-- Proofs that the object of a row has the data that the row prints.
use Rattle.std.proofs.Common.{◌≡◌, ◌==◌, ℕ, ◌^◌, ◌<◌, List, [], ◌∷◌, ◌++◌, true, not, Some, refl, ap, ◌∙◌, codes}
use Rattle.std.specs.Prelude.{◌||◌, decimal}
use Rattle.std.proofs.lemmas.Bool.{and_parts}
use Rattle.ir_event.specs.trees.declared.value.Value.{Value}
use Rattle.ir_event.specs.trees.declared.value.Value.TheVariants.{Result, Arg}
use Rattle.mlir_work_json.proofs.Saying.{after_last, after_whole, cell_whole, decimal_whole, numbers_stay}
use Rattle.mlir_work_json.specs.Cuts.{cell, trailing, is_whole}
use Rattle.mlir_work_json.specs.Forms.{form_of, op_form, value_form}
use Rattle.mlir_work_json.specs.Items.{Number, text, numeral, number_item}
use Rattle.mlir_work_json.specs.Lines.{form_members, line_members}
use Rattle.mlir_work_json.specs.Numbers.{number_of}
use Rattle.mlir_work_json.specs.RowLaws.{IsSmall}
use Rattle.mlir_work_json.specs.Rows.{kind}
use Rattle.mlir_work_json.specs.declared.form.LineKind.TheVariants.{Use, Dead, Diagnostic}
use Rattle.mlir_work_script_base.specs.Values.{op_text, value_text}

-- ---- names are cells

whole_append : (xs ys : List ℕ) → is_whole xs ≡ true → is_whole ys ≡ true → is_whole (xs ++ ys) ≡ true
whole_append [] ys h k = k
whole_append (x ∷ xs) ys h k =
    let parts = and_parts (not ((x == 32) || (x == 34))) (is_whole xs) h in
    rw parts.0 (whole_append xs ys parts.1 k)

whole_op : (op : ℕ) → op < 2 ^ 32 → is_whole (op_text op) ≡ true
whole_op op s = decimal_whole op s

-- two numbers with a dot between them
whole_two : (m n : ℕ) → m < 2 ^ 32 → n < 2 ^ 32 → is_whole (decimal m ++ (codes "." ++ decimal n)) ≡ true
whole_two m n s t = whole_append (decimal m) (codes "." ++ decimal n) (decimal_whole m s) (decimal_whole n t)

whole_three : (l m n : ℕ) → l < 2 ^ 32 → m < 2 ^ 32 → n < 2 ^ 32 → is_whole (decimal l ++ (codes "." ++ (decimal m ++ (codes "." ++ decimal n)))) ≡ true
whole_three l m n r s t = whole_append (decimal l) (codes "." ++ (decimal m ++ (codes "." ++ decimal n))) (decimal_whole l r) (whole_two m n s t)

-- a value's name begins with a percent sign, and is a cell
abbrev IsName : List ℕ → Type 0
IsName word = (rest : List ℕ) × (word ≡ 37 ∷ rest) × (is_whole word ≡ true)

name_of : (v : Value) → IsSmall v → IsName (value_text v)
name_of (Result op place) s = (codes "v" ++ (decimal op ++ (codes "." ++ decimal place)), refl, whole_two op place s.0 s.1)
name_of (Arg op region place) s =
    (codes "a" ++ (decimal op ++ (codes "." ++ (decimal region ++ (codes "." ++ decimal place)))), refl, whole_three op region place s.0 s.1 s.2)

-- ---- uses

use_form : (rest more : List ℕ) → trailing (37 ∷ rest) ≡ 35 ∷ more → form_of (37 ∷ rest) ≡ Use
use_form rest more e = ap (value_form (cell (37 ∷ rest))) e

use_form_of : (word rest more : List ℕ) → IsName word → rest ≡ 35 ∷ more → form_of (word ++ 32 ∷ rest) ≡ Use
use_form_of word rest more name e =
    let here : trailing (37 ∷ (name.0 ++ 32 ∷ rest)) ≡ rest = rw name.1 at (after_whole word rest name.2) in
    rw name.1 (use_form (name.0 ++ 32 ∷ rest) more (here ∙ e))

-- the members of a row with these cells
use_is : (line value user number : List ℕ) (n : ℕ) → form_of line ≡ Use → cell line ≡ value → cell (trailing line) ≡ user → trailing (trailing line) ≡ number
    → number_of number ≡ Some n
    → line_members line ≡ kind (codes "uses") ∷ text (codes "value") value ∷ text (codes "user") user ∷ (codes "operand", Number n) ∷ []
unfolding line_members
use_is line value user number n form a b c e =
    ap (λ f. form_members f line) form
    ∙ (ap (λ w. kind (codes "uses") ∷ text (codes "value") w ∷ text (codes "user") (cell (trailing line)) ∷ numeral (codes "operand") (trailing (trailing line)) ∷ []) a
    ∙ (ap (λ w. kind (codes "uses") ∷ text (codes "value") value ∷ text (codes "user") w ∷ numeral (codes "operand") (trailing (trailing line)) ∷ []) b
    ∙ (ap (λ w. kind (codes "uses") ∷ text (codes "value") value ∷ text (codes "user") user ∷ numeral (codes "operand") w ∷ []) c
    ∙ ap (λ o. kind (codes "uses") ∷ text (codes "value") value ∷ text (codes "user") user ∷ (codes "operand", number_item o number) ∷ []) e)))

pub uses_are_read_back : (v : Value) (user operand : ℕ) → IsSmall v → user < 2 ^ 32 → operand < 2 ^ 32
    → line_members (value_text v ++ 32 ∷ (op_text user ++ 32 ∷ decimal operand))
    ≡ kind (codes "uses") ∷ text (codes "value") (value_text v) ∷ text (codes "user") (op_text user) ∷ (codes "operand", Number operand) ∷ []
uses_are_read_back v user operand s t u =
    let rest = op_text user ++ 32 ∷ decimal operand in
    let line = value_text v ++ 32 ∷ rest in
    let name = name_of v s in
    let after = after_whole (value_text v) rest name.2 in
    use_is line (value_text v) (op_text user) (decimal operand) operand
    (use_form_of (value_text v) rest (decimal user ++ 32 ∷ decimal operand) name refl)
    (cell_whole (value_text v) rest name.2)
    (ap cell after ∙ cell_whole (op_text user) (decimal operand) (whole_op user t))
    (ap trailing after ∙ after_whole (op_text user) (decimal operand) (whole_op user t))
    (numbers_stay operand u)

-- ---- rows that begin with an operation

op_form_of : (rest : List ℕ) → form_of (35 ∷ rest) ≡ op_form (trailing (35 ∷ rest))
op_form_of rest = refl

pub dead_is_read_back : (op : ℕ) → op < 2 ^ 32 → line_members (op_text op) ≡ kind (codes "dead") ∷ text (codes "op") (op_text op) ∷ []
unfolding line_members
dead_is_read_back op s =
    let form : form_of (op_text op) ≡ Dead = op_form_of (decimal op) ∙ ap op_form (after_last (op_text op) (whole_op op s)) in
    ap (λ f. form_members f (op_text op)) form

pub diagnostics_are_read_back : (op rule : ℕ) → op < 2 ^ 32 → line_members (op_text op ++ 32 ∷ (codes "V" ++ decimal rule))
    ≡ kind (codes "diagnostics") ∷ text (codes "op") (op_text op) ∷ text (codes "rule") (codes "V" ++ decimal rule) ∷ []
unfolding line_members
diagnostics_are_read_back op rule s =
    let name = codes "V" ++ decimal rule in
    let line = op_text op ++ 32 ∷ name in
    let after = after_whole (op_text op) name (whole_op op s) in
    let form : form_of line ≡ Diagnostic = op_form_of (decimal op ++ 32 ∷ name) ∙ ap op_form after in
    ap (λ f. form_members f line) form
    ∙ (ap (λ w. kind (codes "diagnostics") ∷ text (codes "op") w ∷ text (codes "rule") (trailing line) ∷ []) (cell_whole (op_text op) name (whole_op op s))
    ∙ ap (λ w. kind (codes "diagnostics") ∷ text (codes "op") (op_text op) ∷ text (codes "rule") w ∷ []) after)
