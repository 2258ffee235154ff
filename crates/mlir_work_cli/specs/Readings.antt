-- The result of reading a pattern file.
use Rattle.std.specs.Prelude.{◌≡◌, ℕ, List, Result, Ok, Err}
use Rattle.user_patterns_text.specs.declared.error.PatternError.{PatternError}
use Rattle.user_patterns_text.specs.declared.error.PatternError.TheVariants as errors
use Rattle.user_patterns_registry.specs.Registry.{RegistryModel}
use Rattle.mlir_work_cli.specs.declared.reading.PatternFileError.{PatternFileError}
use Rattle.mlir_work_cli.specs.Patterns.{IsFirstWrong, IsReadUpTo, defined_by, place_of}

-- reading stops at a line: the first malformed one, or one for which memory ran out
abbrev pub EndsAt : RegistryModel → RegistryModel → List (List ℕ) → ℕ → List ℕ → PatternError → Type 0
EndsAt registry new lines n line errors.Memory = IsReadUpTo registry new lines n line
EndsAt registry new lines n line (errors.Refused fault) = IsFirstWrong registry new lines n line fault

-- all lines are read, or reading stops at one
abbrev pub IsReading : RegistryModel → List (List ℕ) → Result (Unit {0}) PatternFileError → RegistryModel → Type 0
IsReading registry lines (Ok done) new = defined_by registry lines ≡ Ok new
IsReading registry lines (Err unparsed) new =
    (line : List ℕ) × EndsAt registry new lines unparsed.line line unparsed.error × (unparsed.at ≡ place_of line unparsed.error)
