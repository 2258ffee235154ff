-- An input is the text of a module and a script after the first line that is exactly the divider.
use Rattle.std.specs.Prelude.{◌≡◌, ◌⊎◌, ℕ, List, [], ◌∷◌, ◌++◌, ◌&&◌, Bool, true, if◌then◌else◌, codes}
use Rattle.std.specs.Str.{bytes_eq}
use Rattle.mlir_work_script_base.specs.Lines.{is_newline, line_of, after_line}

-- whether the first line is the divider
abbrev pub at_divider : List ℕ → Bool
at_divider text = bytes_eq (line_of text) (codes "// -----")

-- the text before the first divider line; `start` says whether a line begins here
abbrev pub module_from : Bool → List ℕ → List ℕ
module_from start [] = []
module_from start (b ∷ bs) = if start && at_divider (b ∷ bs) then [] else b ∷ module_from (is_newline b) bs

-- the text after that line; it is empty if there is no such line
abbrev pub script_from : Bool → List ℕ → List ℕ
script_from start [] = []
script_from start (b ∷ bs) = if start && at_divider (b ∷ bs) then after_line (b ∷ bs) else script_from (is_newline b) bs

abbrev pub module_text : List ℕ → List ℕ
module_text input = module_from true input

abbrev pub script_text : List ℕ → List ℕ
script_text input = script_from true input

-- the end of a line and the text after it, or nothing
abbrev pub EndsLine : List ℕ → List ℕ → Type 0
EndsLine end rest = (end ≡ 10 ∷ rest) ⊎ ((end ≡ []) × (rest ≡ []))

-- the module, a divider line and the script; or the module alone
abbrev pub IsSplit : List ℕ → List ℕ → List ℕ → Type 0
IsSplit input first second =
    ((end : List ℕ) × (input ≡ first ++ (codes "// -----" ++ end)) × EndsLine end second)
    ⊎ ((input ≡ first) × (second ≡ []))
