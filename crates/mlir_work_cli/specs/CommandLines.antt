-- The command line of the program: what its words ask for, and which words it accepts.
use Rattle.std.specs.Prelude.{◌≡◌, ◌&&◌, ◌||◌, ℕ, Bool, true, false, not, List, Option, Some, None, codes, is_some, map, option_map, unwrap_or}
use Rattle.std.specs.Prelude.{if◌then◌else◌}
use Rattle.std.specs.Str.{bytes_eq}
use Rattle.clap.specs.Words.{Row, Text, first_of, takes}
use Rattle.mlir_work_run.specs.declared.run.Options.{Options}
use Rattle.mlir_work_cli.specs.Arguments.{program}
use Rattle.mlir_work_cli.specs.ArgValues.{given, is_given, is_set, limit_of, values_of}
use Rattle.mlir_work_cli.specs.ListedKinds.{kinds_in}
use Rattle.mlir_work_cli.specs.declared.options.CommandLine.{CommandLine}
use Rattle.mlir_work_cli.specs.declared.options.Format.{Format}
use Rattle.mlir_work_cli.specs.declared.options.Format.TheVariants as formats

abbrev pub format_named : Text → Option Format
format_named word =
    if bytes_eq word (codes "json") then Some formats.Json
    else if bytes_eq word (codes "text") then Some formats.Text
    else None

-- the format of the output, if its word is known
abbrev pub format_of : List Row → Option Format
format_of rows = format_named (unwrap_or (first_of (codes "format") rows) (codes "text"))

abbrev pub is_json : Format → Bool
is_json formats.Json = true
is_json formats.Text = false

-- the list of analyses to attach
abbrev pub list_of : List Row → Text
list_of rows = unwrap_or (first_of (codes "analyses") rows) (codes "all")

-- whether an argument is given that excludes `--interactive`
abbrev pub excludes_interactive : List Row → Bool
excludes_interactive rows =
    is_given rows (codes "module") || (is_given rows (codes "script") || (is_given rows (codes "command")
    || (is_given rows (codes "output") || is_given rows (codes "split"))))

-- whether the values of the arguments are known, and none excludes another
abbrev pub is_consistent : List Row → Bool
is_consistent rows =
    is_some (format_of rows) && (is_some (kinds_in (list_of rows))
    && not (is_set rows (codes "interactive") && excludes_interactive rows))

-- the words, with the program's name first, are a command line of the program
abbrev pub is_accepted : List Text → Bool
is_accepted words = takes program words && is_consistent (given words)

-- the options of a run; JSON output has notes too
pub record HasOptions (rows : List Row) (format : Format) (options : Options) : Type 0 where
  pub brief : options.brief ≡ is_set rows (codes "brief")
  pub limit : options.limit ≡ limit_of rows
  pub ends : options.ends ≡ is_set rows (codes "interactive")
  pub opaque : options.opaque ≡ is_set rows (codes "opaque")
  pub explain : options.explain ≡ (is_set rows (codes "explain") || is_json format)
  pub strict : options.strict ≡ is_set rows (codes "strict")

-- the files and commands of a command line, in order
pub record HasFiles (rows : List Row) (line : CommandLine) : Type 0 where
  pub from : option_map (λ s. s.now) line.module ≡ first_of (codes "module") rows
  pub scripts : map (λ s. s.now) line.scripts.items ≡ values_of rows (codes "script")
  pub commands : map (λ s. s.now) line.commands.items ≡ values_of rows (codes "command")
  pub patterns : map (λ s. s.now) line.patterns.items ≡ values_of rows (codes "patterns")
  pub to : option_map (λ s. s.now) line.output ≡ first_of (codes "output") rows
  pub split : line.split ≡ is_set rows (codes "split")

-- a command line has what was found for each argument, with this format and these kinds of analyses
abbrev pub HasValues : List Row → Format → List ℕ → CommandLine → Type 0
HasValues rows format named line =
    HasOptions rows format line.options × HasFiles rows line × (line.format ≡ format) × (line.analyses.items ≡ named)

-- a command line has what was found for each argument
abbrev pub Reads : List Row → CommandLine → Type 0
Reads rows line =
    HasOptions rows line.format line.options × HasFiles rows line × (format_of rows ≡ Some line.format)
    × (kinds_in (list_of rows) ≡ Some line.analyses.items)

-- the words are consistent, and the command line has what they say
abbrev pub IsCommandLine : List Text → CommandLine → Type 0
IsCommandLine words line = Reads (given words) line × (is_consistent (given words) ≡ true)

-- the command line that matches give, if their values are known and none excludes another
abbrev pub IsLine : List Row → Option CommandLine → Type 0
IsLine rows (Some line) = Reads rows line × (is_consistent rows ≡ true)
IsLine rows None = is_consistent rows ≡ false
