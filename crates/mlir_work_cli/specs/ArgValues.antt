-- The values of the arguments of a command line.
use Rattle.std.specs.Prelude.{◌^◌, ◌&&◌, ℕ, Bool, true, false, List, [], Option, Some, None, codes, find, length, nat_lt}
use Rattle.std.specs.Prelude.{if◌then◌else◌, option_and_then, unwrap_or}
use Rattle.std.specs.Char.{digit_value}
use Rattle.std.specs.List.{list_all}
use Rattle.std.specs.Option.{option_map_or}
use Rattle.std.specs.Str.{bytes_eq}
use Rattle.std.specs.Str.Parse.{digits_value, without_leading_plus}
use Rattle.clap.specs.Words.{Row, Text, all_of, first_of, matches_of}
use Rattle.clap.specs.declared.parser.matches.ValueSource.{ValueSource}
use Rattle.clap.specs.declared.parser.matches.ValueSource.TheVariants.{DefaultValue, CommandLine as Words}
use Rattle.mlir_work_cli.specs.Arguments.{program}

-- what the words of a command line, with the program's name first, give for each argument
unfoldable pub given : List Text → List Row
given words = matches_of program words

-- whether an option without a value is given
abbrev pub is_set : List Row → Text → Bool
is_set rows name = option_map_or (λ text. bytes_eq text (codes "true")) (first_of name rows) false

-- the values of an option, in order
abbrev pub values_of : List Row → Text → List Text
values_of rows name = unwrap_or (all_of name rows) []

abbrev pub is_from_words : Option ValueSource → Bool
is_from_words (Some Words) = true
is_from_words (Some DefaultValue) = false
is_from_words None = false

abbrev pub source_of : List Row → Text → Option ValueSource
source_of rows name = option_and_then (λ row. row.source) (find (λ row. bytes_eq row.id name) rows)

-- whether an argument is given, and not only its default
abbrev pub is_given : List Row → Text → Bool
is_given rows name = is_from_words (source_of rows name)

-- the decimal number below 2^32 that a text spells, or the limit 1000
abbrev pub number_or_default : Text → ℕ
number_or_default text =
    let ds = without_leading_plus text in
    if nat_lt 0 (length ds) && list_all (λ d. nat_lt (digit_value d) 10) ds && nat_lt (digits_value 10 ds) (2 ^ 32)
    then digits_value 10 ds else 1000

-- the rewrite limit
abbrev pub limit_of : List Row → ℕ
limit_of rows = option_map_or number_or_default (first_of (codes "limit") rows) 1000
