-- The inputs and the pattern files that a command line names.
use Rattle.std.specs.Prelude.{◌≡◌, ⊤, ℕ, List, [], ◌∷◌, ◌++◌, Bool, true, false, Option, Some, None, codes, if◌then◌else◌, map, option_map}
use Rattle.std.specs.Str.{bytes_eq}
use Rattle.mlir_work_cli.specs.Inputs.{input_of, parts_of}
use Rattle.mlir_work_cli.specs.declared.options.CommandLine.{CommandLine}

-- the file of a name, or none for `-`, which is standard input or standard output
abbrev pub file_named : List ℕ → Option (List ℕ)
file_named name = if bytes_eq name (codes "-") then None else Some name

-- the file of a name that may be left out
abbrev pub file_if : Option (List ℕ) → Option (List ℕ)
file_if None = None
file_if (Some name) = file_named name

-- a file, or standard input, had these bytes when it was read
abbrev pub Reading : Type 1
Reading = Option (List ℕ) → List ℕ → Type 0

-- each of these files had the bytes at the same place of the list
abbrev pub AllHave : Reading → List (Option (List ℕ)) → List (List ℕ) → Type 0
AllHave Has [] [] = ⊤
AllHave Has [] (text ∷ texts) = ⊥
AllHave Has (file ∷ files) [] = ⊥
AllHave Has (file ∷ files) (text ∷ texts) = Has file text × AllHave Has files texts

-- the modules of a text: those between its dividers if it is to be split, and else the one module
abbrev pub modules_of : Bool → List ℕ → List (List ℕ)
modules_of true text = parts_of text
modules_of false text = text ∷ []

-- the inputs with these scripts, one for each module
abbrev pub inputs_with : List (List ℕ) → List (List ℕ) → List (List ℕ)
inputs_with scripts [] = []
inputs_with scripts (text ∷ texts) = input_of text scripts ∷ inputs_with scripts texts

-- the script files that a command line names, in order
abbrev pub script_files : CommandLine → List (Option (List ℕ))
script_files line = map (λ s. file_named s.now) line.scripts.items

-- the commands of a command line, in order
abbrev pub commands_of : CommandLine → List (List ℕ)
commands_of line = map (λ s. s.now) line.commands.items

-- the texts of all script files, followed by all commands
abbrev pub AreScripts : Reading → CommandLine → List (List ℕ) → Type 0
AreScripts Has line scripts =
    (texts : List (List ℕ)) × AllHave Has (script_files line) texts × (scripts ≡ texts ++ commands_of line)

-- the inputs of a command line: each module of the module's file, or of standard input, with all its scripts
abbrev pub AreInputs : Reading → CommandLine → List (List ℕ) → Type 0
AreInputs Has line inputs =
    (text : List ℕ) × (scripts : List (List ℕ)) × Has (file_if (option_map (λ s. s.now) line.module)) text
    × AreScripts Has line scripts × (inputs ≡ inputs_with scripts (modules_of line.split text))

-- ---- pattern files

-- the pattern files that a command line names, in order; here `-` isn't standard input
abbrev pub pattern_names : CommandLine → List (List ℕ)
pattern_names line = map (λ s. s.now) line.patterns.items

-- the files of these names
abbrev pub files_of : List (List ℕ) → List (Option (List ℕ))
files_of names = map (λ (name : List ℕ). Some name) names

-- pattern files with these names and texts are those of a command line
pub record ArePatternFiles (Has : Reading) (line : CommandLine) (names texts : List (List ℕ)) : Type 0 where
  pub names_are : names ≡ pattern_names line
  pub texts_are : AllHave Has (files_of names) texts
