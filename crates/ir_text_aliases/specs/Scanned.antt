-- The state of the scan before a lexeme.
use Rattle.std.specs.Prelude.{ℕ, Bool, true, false, not, ◌&&◌, ◌||◌, ◌==◌, if◌then◌else◌, List, [], ◌∷◌, Option, Some, None}
use Rattle.std.specs.Char.{is_ascii_digit}
use Rattle.ir_text_tokens.specs.Bytes.{is_blank, is_word}
use Rattle.ir_text_tokens.specs.Tokens.{suffix_len}
use Rattle.ir_text_tokens.specs.Bodies.{closer_of, is_arrow}
use Rattle.ir_text_aliases.specs.declared.scan_state.ScanState.{ScanState}
use Rattle.ir_text_aliases.specs.declared.scan_state.Bracket.{Bracket}
use Rattle.ir_text_aliases.specs.declared.scan_state.BracketContents.{BracketContents}
use Rattle.ir_text_aliases.specs.declared.scan_state.BracketContents.TheVariants.{Operations, List as Lists, Arguments, Place, Others}
use Rattle.ir_text_aliases.specs.declared.scan_state.LastToken.{LastToken}
use Rattle.ir_text_aliases.specs.declared.scan_state.LastToken.TheVariants.{Minus, Loc, Label, Ending, Other}
use Rattle.ir_text_aliases.specs.declared.scan_state.OpStage.{OpStage}
use Rattle.ir_text_aliases.specs.declared.scan_state.OpStage.TheVariants.{Before, InType, AfterType}
use Rattle.ir_text_aliases.specs.Lexemes.{is_gap, is_loc, is_name_sign, word_len}

-- ---- the contents of a bracket

abbrev pub is_operations : BracketContents → Bool
is_operations Operations = true
is_operations Lists = false
is_operations Arguments = false
is_operations Place = false
is_operations Others = false

abbrev pub is_list : BracketContents → Bool
is_list Operations = false
is_list Lists = true
is_list Arguments = false
is_list Place = false
is_list Others = false

abbrev pub is_arguments : BracketContents → Bool
is_arguments Operations = false
is_arguments Lists = false
is_arguments Arguments = true
is_arguments Place = false
is_arguments Others = false

abbrev pub is_place : BracketContents → Bool
is_place Operations = false
is_place Lists = false
is_place Arguments = false
is_place Place = true
is_place Others = false

-- ---- the last lexeme that is neither a blank nor a comment

abbrev pub is_minus : LastToken → Bool
is_minus Minus = true
is_minus Loc = false
is_minus Label = false
is_minus Ending = false
is_minus Other = false

abbrev pub is_word_loc : LastToken → Bool
is_word_loc Minus = false
is_word_loc Loc = true
is_word_loc Label = false
is_word_loc Ending = false
is_word_loc Other = false

abbrev pub is_label : LastToken → Bool
is_label Minus = false
is_label Loc = false
is_label Label = true
is_label Ending = false
is_label Other = false

-- a type may end with it
abbrev pub is_ending : LastToken → Bool
is_ending Minus = false
is_ending Loc = true
is_ending Label = true
is_ending Ending = true
is_ending Other = false

-- a word, a number, a name, `)` or `>`
abbrev pub ends_type : ℕ → List ℕ → Bool
ends_type c cs = is_word c || ((c == 41 || c == 62) || (is_name_sign c && not (suffix_len cs == 0)))

abbrev pub last_of : ℕ → List ℕ → LastToken
last_of c cs =
    if is_arrow c cs then Other
    else if c == 45 then Minus
    else if is_loc c cs then Loc
    else if c == 94 then Label
    else if ends_type c cs then Ending
    else Other

-- ---- the part of an operation that the scan has reached

abbrev pub is_typed : OpStage → Bool
is_typed Before = false
is_typed InType = true
is_typed AfterType = false

-- the function type has begun, or the location after it was removed
abbrev pub is_after : OpStage → Bool
is_after Before = false
is_after InType = true
is_after AfterType = true

-- a string, or the sigil of a value or a label
abbrev pub begins_operation : ℕ → Bool
begins_operation c = c == 34 || (c == 37 || c == 94)

-- ---- brackets

-- whether the byte closes the innermost bracket
abbrev pub is_closer : ℕ → Option ℕ → Bool
is_closer c None = false
is_closer c (Some d) = c == d

abbrev pub closes : ScanState → ℕ → Bool
closes f c = is_closer c f.around.closer

abbrev pub is_outside : Option ℕ → Bool
is_outside None = true
is_outside (Some d) = false

-- the contents of the bracket that the byte opens: among operations, the arguments of a block, or operands, types or
-- regions; in such a list, the operations of a region; in or after `loc`, a location
abbrev pub held : ScanState → ℕ → BracketContents
held f c =
    if is_operations f.around.holds && c == 40 then (if is_label f.last then Arguments else Lists)
    else if is_list f.around.holds && c == 123 then Operations
    else if is_place f.around.holds || is_word_loc f.last then Place
    else Others

abbrev pub first_or : Bracket → List Bracket → Bracket
first_or b [] = b
first_or b (o ∷ os) = o

abbrev pub rest_of : List Bracket → List Bracket
rest_of [] = []
rest_of (o ∷ os) = os

abbrev pub opened_around : Option ℕ → ScanState → ℕ → Bracket
opened_around None f c = f.around
opened_around (Some d) f c = record { closer = Some d; holds = held f c }

abbrev pub opened_outer : Option ℕ → ScanState → List Bracket → List Bracket
opened_outer None f outer = outer
opened_outer (Some d) f outer = f.around ∷ outer

-- the innermost open bracket after the byte
abbrev pub around_after : ScanState → List Bracket → ℕ → Bracket
around_after f outer c = if closes f c then first_or f.around outer else opened_around (closer_of c) f c

abbrev pub outer_after : ScanState → List Bracket → ℕ → List Bracket
outer_after f outer c = if closes f c then rest_of outer else opened_outer (closer_of c) f outer

-- ---- after a lexeme

-- a byte after which a replacement can't be read as a part of the token before it
abbrev pub is_apart : ℕ → Bool
is_apart c = (is_blank c || (c == 40 || c == 91)) || ((c == 123 || c == 60) || (c == 44 || (c == 61 || (c == 58 || c == 62))))

-- a byte after which an `x` separates dimensions: a digit, `?`, `]` or `*`
abbrev pub is_count : ℕ → Bool
is_count c = is_ascii_digit c || (c == 63 || (c == 93 || c == 42))

-- the word `x` directly after such a byte
abbrev pub parts_dimensions : ScanState → ℕ → List ℕ → Bool
parts_dimensions f c cs = (c == 120 && word_len cs == 0) && f.counts

-- a region begins or ends at the byte
abbrev pub turns : ScanState → ℕ → Bool
turns f c = (is_operations f.around.holds && closes f c) || (is_list f.around.holds && c == 123)

abbrev pub goes_on : ScanState → ℕ → List ℕ → Bool
goes_on f c cs = (is_operations f.around.holds && is_arrow c cs) || (is_typed f.stage && not (is_operations f.around.holds && begins_operation c))

abbrev pub next_stage : ScanState → ℕ → List ℕ → OpStage
next_stage f c cs = if not (turns f c) && goes_on f c cs then InType else Before

abbrev pub gap_scanned : ScanState → ScanState
gap_scanned f = record { apart = true; counts = false; last = f.last; stage = f.stage; around = f.around }

abbrev pub next_scanned : ScanState → List Bracket → ℕ → List ℕ → ScanState
next_scanned f outer c cs =
    if is_gap c cs then gap_scanned f
    else record {
      apart = is_arrow c cs || (is_apart c || parts_dimensions f c cs);
      counts = is_count c;
      last = last_of c cs;
      stage = next_stage f c cs;
      around = around_after f outer c;
    }

-- the state at the start of a text whose contents are known, after an alias, and after a removed location
abbrev pub at_first : BracketContents → ScanState
at_first k = record { apart = true; counts = false; last = Other; stage = Before; around = record { closer = None; holds = k } }

abbrev pub trailing_alias : ScanState → ScanState
trailing_alias f = record { apart = false; counts = false; last = Ending; stage = if is_typed f.stage then InType else Before; around = f.around }

abbrev pub after_place : ScanState → ScanState
after_place f = record { apart = false; counts = false; last = Ending; stage = AfterType; around = f.around }
