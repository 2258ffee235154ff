-- The kinds of the first token of a term or a number, and the words of the language.
use Rattle.std.specs.Prelude.{ℕ, Bool, false, ◌&&◌, ◌||◌, ◌==◌, if◌then◌else◌, List, [], ◌∷◌, codes, Option, Some, None, option_map, is_some}
use Rattle.std.specs.List.{list_all, list_any}
use Rattle.std.specs.Str.{bytes_eq}
use Rattle.std.specs.Char.{is_ascii_digit}
use Rattle.ir_text_tokens.specs.Tokens.{Lexeme, mark, integer, float, string, bare, value, label, hash, bang, symbol, quoted}
use Rattle.ir_text_tokens.specs.Numbers.{below_limit, integer_of}
use Rattle.ir_text_types.specs.Marks.{mark_code}
use Rattle.ir_text_types.specs.Scalars.{width_of}

-- a type: `iN`, `index`, or a variable's name
pub data Written : Type 0 where
  integer_type : ℕ → Written
  index_type : Written
  variable_type : List ℕ → Written

-- a word with a dot names an operation, and a word without a dot anything else
pub data Head : Type 0 where
  of_value : List ℕ → Head
  of_operation : List ℕ → Head
  of_word : List ℕ → Head
  of_digits : List ℕ → Head
  of_minus : Head
  of_other : Head

abbrev pub has_dot : List ℕ → Bool
has_dot w = list_any (λ c. c == 46) w

abbrev pub head_of : Lexeme → Head
head_of (value n) = of_value n
head_of (bare w) = if has_dot w then of_operation w else of_word w
head_of (integer ds) = of_digits ds
head_of (mark m) = if mark_code m == 45 then of_minus else of_other
head_of (float s) = of_other
head_of (string s) = of_other
head_of (label s) = of_other
head_of (hash s) = of_other
head_of (bang s) = of_other
head_of (symbol s) = of_other
head_of (quoted s) = of_other

-- the number of digits, which is below 2^128
abbrev pub magnitude_of : List ℕ → Option ℕ
magnitude_of ds = below_limit (integer_of ds)

-- whether a word is `i` and digits
abbrev pub is_integer_word : List ℕ → Bool
is_integer_word [] = false
is_integer_word (c ∷ []) = false
is_integer_word (c ∷ d ∷ ds) = c == 105 && list_all is_ascii_digit (d ∷ ds)

abbrev pub after_i : List ℕ → Option ℕ
after_i [] = None
after_i (c ∷ ds) = width_of ds

-- the type that a word is
unfoldable pub type_word : List ℕ → Option Written
type_word w =
    if bytes_eq w (codes "index") then Some index_type
    else if is_integer_word w then option_map integer_type (after_i w)
    else Some (variable_type w)

abbrev pub is_type_word : List ℕ → Bool
is_type_word w = is_some (type_word w)

-- the operations that fold, and the words of their constraints
abbrev pub is_one_of : List (List ℕ) → List ℕ → Bool
is_one_of words w = list_any (bytes_eq w) words

unfoldable pub folding : List (List ℕ)
folding =
    codes "arith.addi" ∷ codes "arith.subi" ∷ codes "arith.muli" ∷ codes "arith.shli" ∷ codes "arith.divsi" ∷ codes "arith.divui"
    ∷ codes "arith.remsi" ∷ codes "arith.remui" ∷ codes "arith.andi" ∷ codes "arith.ori" ∷ codes "arith.xori" ∷ codes "arith.shrsi"
    ∷ codes "arith.shrui" ∷ codes "arith.maxsi" ∷ codes "arith.maxui" ∷ codes "arith.minsi" ∷ codes "arith.minui" ∷ codes "arith.cmpi"
    ∷ codes "arith.select" ∷ codes "arith.extsi" ∷ codes "arith.extui" ∷ codes "arith.trunci" ∷ codes "arith.index_cast"
    ∷ codes "arith.index_castui" ∷ []

unfoldable pub predicates : List (List ℕ)
predicates =
    codes "eq" ∷ codes "ne" ∷ codes "slt" ∷ codes "sle" ∷ codes "sgt" ∷ codes "sge" ∷ codes "ult" ∷ codes "ule" ∷ codes "ugt"
    ∷ codes "uge" ∷ []

unfoldable pub flagged : List (List ℕ)
flagged = codes "arith.addi" ∷ codes "arith.subi" ∷ codes "arith.muli" ∷ codes "arith.shli" ∷ codes "arith.trunci" ∷ []

abbrev pub is_comparison : List ℕ → Bool
is_comparison w = bytes_eq w (codes "arith.cmpi")

-- the words that are allowed in angle brackets after the name of an operation
abbrev pub is_allowed_word : List ℕ → List ℕ → Bool
is_allowed_word name w = if is_comparison name then is_one_of predicates w else bytes_eq w (codes "none")

-- whether an operation needs a constraint, and whether it may have one on that side
abbrev pub must_be_requested : List ℕ → Bool
must_be_requested name = is_comparison name

abbrev pub may_be_requested : Bool → List ℕ → Bool
may_be_requested left name = is_comparison name || (left && is_one_of flagged name)
