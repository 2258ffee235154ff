-- The names of operations and values in scripts and reports.
use Rattle.std.specs.Prelude.{ℕ, List, [], ◌∷◌, ◌++◌, ◌==◌, ◌&&◌, Bool, Option, Some, None, if◌then◌else◌, codes}
use Rattle.std.specs.Fmt.{decimal}
use Rattle.ir_event.specs.trees.declared.value.Value.{Value}
use Rattle.ir_event.specs.trees.declared.value.Value.TheVariants.{Result, Arg}
use Rattle.mlir_work_script_base.specs.Cuts.{before, after}
use Rattle.mlir_work_script_base.specs.Numbers.{number_of}

-- ---- printed form

-- an operation by its id: `#3`
abbrev pub op_text : ℕ → List ℕ
op_text op = codes "#" ++ decimal op

-- a result by its operation and index, `%v2.0`; a block argument by its operation, region and index, `%a1.0.0`
abbrev pub value_text : Value → List ℕ
value_text (Result op place) = codes "%v" ++ (decimal op ++ (codes "." ++ decimal place))
value_text (Arg op region place) =
    codes "%a" ++ (decimal op ++ (codes "." ++ (decimal region ++ (codes "." ++ decimal place))))

-- ---- parsed form

abbrev pub is_dot : ℕ → Bool
is_dot b = b == 46

-- the operation with this name
abbrev pub op_of : List ℕ → Option ℕ
op_of [] = None
op_of (b ∷ bs) = if b == 35 then number_of bs else None

abbrev pub result_from : Option ℕ → Option ℕ → Option Value
result_from (Some op) (Some place) = Some (Result op place)
result_from (Some op) None = None
result_from None place = None

abbrev pub argument_from : Option ℕ → Option ℕ → Option ℕ → Option Value
argument_from (Some op) (Some region) (Some place) = Some (Arg op region place)
argument_from (Some op) (Some region) None = None
argument_from (Some op) None place = None
argument_from None region place = None

-- the result `N.K`
abbrev pub result_of : List ℕ → Option Value
result_of text = result_from (number_of (before is_dot text)) (number_of (after is_dot text))

-- the block argument `N.R.K`
abbrev pub argument_of : List ℕ → Option Value
argument_of text =
    argument_from (number_of (before is_dot text)) (number_of (before is_dot (after is_dot text)))
    (number_of (after is_dot (after is_dot text)))

-- the value with this name
abbrev pub value_of : List ℕ → Option Value
value_of [] = None
value_of (a ∷ []) = None
value_of (a ∷ b ∷ text) =
    if (a == 37) && (b == 118) then result_of text
    else if (a == 37) && (b == 97) then argument_of text
    else None
