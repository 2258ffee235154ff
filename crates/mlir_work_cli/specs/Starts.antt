-- The patterns with which a run begins.
use Rattle.std.specs.Prelude.{◌≡◌, ℕ, List, [], Ok}
use Rattle.user_patterns_registry.specs.Registry.{RegistryModel}
use Rattle.mlir_work_cli.specs.Inputs.{all_lines}
use Rattle.mlir_work_cli.specs.Patterns.{defined_by}

-- the registry has the patterns of the lines of these texts, in order
abbrev pub HasPatterns : List (List ℕ) → RegistryModel → Type 0
HasPatterns texts registry = defined_by [] (all_lines texts) ≡ Ok registry

-- the same for the registry with which a run begins
abbrev pub BeginsWith : List (List ℕ) → (RegistryModel → Type 0) → Type 0
BeginsWith texts P = (start : RegistryModel) × HasPatterns texts start × P start
