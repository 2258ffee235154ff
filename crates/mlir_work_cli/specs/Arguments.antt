-- The arguments of the program's command line.
use Rattle.std.specs.Prelude.{◌≡◌, true, false, [], ◌∷◌, Some, pos, codes}
use Rattle.clap.specs.Words.{App, Rule, Text, new_app, new_rule, rule_of, with_rule}
use Rattle.clap.specs.Simple.{on_top}
use Rattle.clap.specs.declared.builder.action.ArgAction.TheVariants.{SetTrue, Append}
use Rattle.clap.specs.declared.builder.arg.Arg.{Arg}
use Rattle.clap.specs.declared.builder.value_parser.ValueParser.TheVariants.{Signed}

-- an option without a value, with this name and this long form
abbrev pub flag_as : Text → Text → Rule
flag_as name long = record (new_rule name) { long = Some long; action = Some SetTrue }

abbrev pub flag : Text → Rule
flag name = flag_as name name

-- an option with one value
abbrev pub option : Text → Rule
option name = record (new_rule name) { long = Some name; value_names = 1 }

-- an option with one value that may be repeated
abbrev pub repeated : Text → Rule
repeated name = record (option name) { action = Some Append }

-- an option with one value and a default
abbrev pub defaulted : Text → Text → Rule
defaulted name value = record (option name) { defaults = value ∷ [] }

-- MODULE, the one positional argument
abbrev pub module_rule : Rule
module_rule = record (new_rule (codes "module")) { value_names = 1 }

-- -s, --script FILE
abbrev pub script_rule : Rule
script_rule = record (repeated (codes "script")) { short = Some 115 }

-- -e, --command COMMAND
abbrev pub command_rule : Rule
command_rule = record (repeated (codes "command")) { short = Some 101 }

-- --patterns FILE
abbrev pub patterns_rule : Rule
patterns_rule = repeated (codes "patterns")

-- -o, --output FILE
abbrev pub output_rule : Rule
output_rule = record (option (codes "output")) { short = Some 111 }

-- --limit N, from 1 to 1,000,000
abbrev pub limit_rule : Rule
limit_rule = record (defaulted (codes "limit") (codes "1000")) { parser = Some (Signed (pos 1) (pos 1000000)) }

-- --analyses LIST
abbrev pub analyses_rule : Rule
analyses_rule = defaulted (codes "analyses") (codes "all")

-- --format FORMAT
abbrev pub format_rule : Rule
format_rule = defaulted (codes "format") (codes "text")

-- --split-input-file
abbrev pub split_rule : Rule
split_rule = flag_as (codes "split") (codes "split-input-file")

-- the command line without arguments; it has `--help` and `--version`
abbrev pub titled : App
titled = on_top (λ s. record s { has_version = true }) (new_app (codes "mlir_work"))

abbrev pub with_files : App → App
with_files a = with_rule (with_rule (with_rule (with_rule a module_rule) script_rule) command_rule) patterns_rule

abbrev pub with_basics : App → App
with_basics a =
    with_rule (with_rule (with_rule (with_rule a output_rule) (flag (codes "brief"))) limit_rule) (flag (codes "opaque"))

abbrev pub with_values : App → Rule → Rule → App
with_values a list form =
    with_rule (with_rule (with_rule (with_rule a (flag (codes "explain"))) (flag (codes "strict"))) list) form

abbrev pub with_inputs : App → Rule → App
with_inputs a live = with_rule (with_rule a split_rule) live

-- the command line of the program: its arguments in order
unfoldable pub program : App
program =
    with_inputs (with_values (with_basics (with_files titled)) analyses_rule format_rule) (flag (codes "interactive"))

-- the argument has these rules, for this command alone
abbrev pub IsDeclared : Rule → Arg → Type 0
IsDeclared rule arg = (rule_of arg ≡ rule) × (arg.global ≡ false)
