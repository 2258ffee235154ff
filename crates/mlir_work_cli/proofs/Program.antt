-- What the program's command line gives for words.
use Rattle.std.proofs.Common.{◌≡◌, ◌∙◌, Bool, List, Option, Some, None, true, false, true≢false, refl, ap, sym, subst}
use Rattle.clap.specs.Words.{App, HasMatchesOf, Row, Text, found_of, is_simple, kind_of, matches_of, rows_of, takes}
use Rattle.clap.specs.declared.parser.matches.ArgMatches.{ArgMatches}
use Rattle.clap.proofs.OnLiterals.{clap_on_literals}
use Rattle.clap.proofs.WalkLemmas.{both}
use Rattle.mlir_work_cli.specs.Arguments.{program}
use Rattle.mlir_work_cli.specs.ArgValues.{given}
use Rattle.mlir_work_cli.specs.CommandLines.{IsLine, is_accepted, is_consistent}
use Rattle.mlir_work_cli.specs.declared.options.CommandLine.{CommandLine}

program_is_simple : is_simple program ≡ true
unfolding clap_on_literals program
program_is_simple = refl

pub given_is : (a : App) (words : List Text) (m : ArgMatches) → a ≡ program → HasMatchesOf a words m → rows_of (found_of m) ≡ given words
unfolding given
given_is a words m is h = (h (ap is_simple is ∙ program_is_simple)).0 ∙ ap (λ b. matches_of b words) is

pub takes_is : (a : App) (words : List Text) → a ≡ program → takes program words ≡ true → takes a words ≡ true
takes_is a words is t = ap (λ b. takes b words) is ∙ t

-- accepted words are words that the command takes
pub accepted_takes : (words : List Text) → is_accepted words ≡ true → takes program words ≡ true
accepted_takes words h = (both _ _ h).0

-- and what they give is consistent
pub accepted_consistent : (words : List Text) (rows : List Row) → rows ≡ given words → is_accepted words ≡ true → is_consistent rows ≡ false → ⊥
accepted_consistent words rows is h not = true≢false (sym (ap is_consistent is ∙ (both _ _ h).1) ∙ not)

pub line_given : (words : List Text) (rows : List Row) (line : Option CommandLine) → rows ≡ given words → IsLine rows line → IsLine (given words) line
line_given words rows line is h = subst (λ (xs : List Row). IsLine xs line) is h
