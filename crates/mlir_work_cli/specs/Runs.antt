-- Runs of several inputs, and which run a command line asks for.
use Rattle.std.specs.Prelude.{◌≡◌, ◌||◌, ℕ, max, nat_lt, length, Bool, List, [], ◌∷◌, is_some, if◌then◌else◌, option_map}
use Rattle.mlir_work_cli.specs.Files.{file_if}
use Rattle.mlir_work_cli.specs.declared.options.CommandLine.{CommandLine}
use Rattle.mlir_work_cli.specs.declared.runs.Route.{Route}
use Rattle.mlir_work_cli.specs.declared.runs.Route.TheVariants as routes

-- each input ended with a status, and this is the greatest of them
abbrev pub AreRun : (List ℕ → ℕ → Type 0) → List (List ℕ) → ℕ → Type 0
AreRun Ends [] worst = worst ≡ 0
AreRun Ends (input ∷ inputs) worst =
    (status : ℕ) × (later : ℕ) × Ends input status × AreRun Ends inputs later × (worst ≡ max status later)

-- whether the command line names an input: a module, scripts or commands, or that the input is to be split
abbrev pub names_input : CommandLine → Bool
names_input line =
    line.split || (is_some line.module || (nat_lt 0 (length line.scripts.items) || nat_lt 0 (length line.commands.items)))

-- whether the command line names an output file
abbrev pub names_output : CommandLine → Bool
names_output line = is_some (file_if (option_map (λ s. s.now) line.output))

-- named inputs are run one after another, and so is standard input if an output file is named; else `--interactive`
-- answers each line of standard input at once
abbrev pub route_of : CommandLine → Route
route_of line =
    if names_input line || names_output line then routes.Inputs
    else if line.options.ends then routes.Lines
    else routes.Whole
