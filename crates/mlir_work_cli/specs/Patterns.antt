-- The registry after reading the lines of a pattern file.
use Rattle.std.specs.Prelude.{◌≡◌, ℕ, suc, ◌-◌, ◌==◌, ◌||◌, Bool, not, nat_eq, if◌then◌else◌, List, [], ◌∷◌, ◌++◌, codes, length, Ok, Err}
use Rattle.std.specs.List.{starts_with}
use Rattle.ir_text_tokens.specs.declared.fault.Fault.{Fault}
use Rattle.mlir_work_script_base.specs.Words.{trim}
use Rattle.user_patterns_text.specs.Refusing.{Outcome, ◌>>=◌}
use Rattle.user_patterns_text.specs.declared.error.PatternError.{PatternError}
use Rattle.user_patterns_text.specs.declared.error.PatternError.TheVariants as errors
use Rattle.user_patterns_registry.specs.Registry.{RegistryModel, defined}

-- a trimmed line is a pattern if it isn't empty and isn't a comment
abbrev pub is_pattern : List ℕ → Bool
is_pattern text = not ((length text == 0) || starts_with nat_eq text (codes "//"))

-- the registry with the pattern of a line, if the line has one
abbrev pub line_defined : RegistryModel → List ℕ → Outcome RegistryModel
line_defined registry line = if is_pattern (trim line) then defined registry (trim line) else Ok registry

-- the registry with the patterns of the lines in order
abbrev pub defined_by : RegistryModel → List (List ℕ) → Outcome RegistryModel
defined_by registry [] = Ok registry
defined_by registry (line ∷ lines) = line_defined registry line >>= λ more. defined_by more lines

-- the byte of a line's pattern at which the pattern was refused
abbrev pub place_of : List ℕ → PatternError → ℕ
place_of line errors.Memory = 0
place_of line (errors.Refused fault) = length (trim line) - fault.left

-- `line` is the `n`-th line, and `new` is the registry after the lines before it
pub record IsReadUpTo (registry new : RegistryModel) (lines : List (List ℕ)) (n : ℕ) (line : List ℕ) : Type 0 where
  pub preceding : List (List ℕ)
  pub trailing : List (List ℕ)
  pub are : lines ≡ preceding ++ line ∷ trailing
  pub counted : n ≡ suc (length preceding)
  pub makes : defined_by registry preceding ≡ Ok new

-- the `n`-th line is the first malformed one: the lines before it are read, and it is refused
pub record IsFirstWrong (registry new : RegistryModel) (lines : List (List ℕ)) (n : ℕ) (line : List ℕ) (fault : Fault) : Type 0 where
  pub up_to : IsReadUpTo registry new lines n line
  pub wrong : line_defined new line ≡ Err fault

-- ---- theorems

-- lines with a first malformed line are refused for its fault
abbrev pub WrongLinesAreReported : Type 0
WrongLinesAreReported = (registry new : RegistryModel) (lines : List (List ℕ)) (n : ℕ) (line : List ℕ) (fault : Fault)
    → IsFirstWrong registry new lines n line fault → defined_by registry lines ≡ Err fault

-- refused lines have a first malformed line
abbrev pub RefusedLinesHaveOne : Type 0
RefusedLinesHaveOne = (registry : RegistryModel) (lines : List (List ℕ)) (fault : Fault) → defined_by registry lines ≡ Err fault
    → (new : RegistryModel) × (n : ℕ) × (line : List ℕ) × IsFirstWrong registry new lines n line fault
