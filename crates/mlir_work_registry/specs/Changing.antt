-- Registry commands change a registry by definitions, removals, replacements and recorded checks alone.
use Rattle.std.specs.Prelude.{ℕ, List, []}
use Rattle.user_patterns_registry.specs.Changes.{ChangesTo, IsReached}
use Rattle.user_patterns_registry.specs.Registry.{RegistryModel}
use Rattle.mlir_work_script.specs.RegistryCommands.{RegistryCommand}
use Rattle.mlir_work_registry.specs.Notices.{Notice}
use Rattle.mlir_work_registry.specs.Registries.{Registries}

-- whatever the response to a registry command is, such changes lead to the registry that the command leaves
abbrev pub CommandsChange : Type 0
CommandsChange =
    (command : RegistryCommand) (b c : RegistryModel) (notice : Notice) (bytes : List ℕ) → Registries command b notice bytes c
    → (k : ℕ) × ChangesTo k b c

-- so a reached registry stays reached
abbrev pub CommandsReach : Type 0
CommandsReach =
    (command : RegistryCommand) (b c : RegistryModel) (notice : Notice) (bytes : List ℕ) → IsReached b → Registries command b notice bytes c
    → IsReached c

-- the empty registry of a new session is reached
abbrev pub NewIsReached : Type 0
NewIsReached = IsReached []
