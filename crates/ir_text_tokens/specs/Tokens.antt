-- Tokens, by longest match from left to right. MLIR Language Reference, "Common syntax" and
-- "Identifiers and keywords".
use Rattle.std.specs.Prelude.{ℕ, ◌+◌, Bool, false, not, ◌&&◌, ◌||◌, ◌==◌, if◌then◌else◌, List, [], ◌∷◌, take, drop, Option, Some, None, option_map}
use Rattle.std.specs.List.{prefix_len}
use Rattle.std.specs.Char.{is_ascii_digit}
use Rattle.ir_text_tokens.specs.declared.token.Mark.{Mark}
use Rattle.ir_text_tokens.specs.declared.token.Mark.TheVariants.{OpenRound, CloseRound, OpenCurly, CloseCurly, OpenSquare, CloseSquare, Less, Greater, Comma, Equal, Colon, DoubleColon, Minus, Arrow, Question, Star, End}
use Rattle.ir_text_tokens.specs.declared.token.Token.{Token}
use Rattle.ir_text_tokens.specs.declared.token.Token.TheVariants as code
use Rattle.ir_text_tokens.specs.Bytes.{is_blank, is_hex, is_letter, is_word, is_suffix}
use Rattle.ir_text_tokens.specs.Strings.{closing}

-- a token; a string and a quoted symbol have the text between the quotes, and a name has the text after its sigil
pub data Lexeme : Type 0 where
  mark : Mark → Lexeme
  integer : List ℕ → Lexeme
  float : List ℕ → Lexeme
  string : List ℕ → Lexeme
  bare : List ℕ → Lexeme
  value : List ℕ → Lexeme
  label : List ℕ → Lexeme
  hash : List ℕ → Lexeme
  bang : List ℕ → Lexeme
  symbol : List ℕ → Lexeme
  quoted : List ℕ → Lexeme

-- ---- blanks

-- two slashes begin a comment
abbrev pub is_comment : ℕ → List ℕ → Bool
is_comment c [] = false
is_comment c (d ∷ ds) = c == 47 && d == 47

unfoldable mutual
  -- the rest of the text after leading blanks and comments
  pub skip : List ℕ → List ℕ
  skip [] = []
  skip (c ∷ cs) = if is_comment c cs then skip_line cs else if is_blank c then skip cs else c ∷ cs

  -- a comment ends at the line feed
  pub skip_line : List ℕ → List ℕ
  skip_line [] = []
  skip_line (c ∷ cs) = if c == 10 then skip cs else skip_line cs

-- ---- runs of bytes

-- the first n bytes as a token, and the rest of the text
abbrev pub cut : (List ℕ → Lexeme) → ℕ → List ℕ → Option (Lexeme × List ℕ)
cut make n bytes = Some (make (take n bytes), drop n bytes)

-- ---- numbers

abbrev pub digits_len : List ℕ → ℕ
digits_len bytes = prefix_len is_ascii_digit bytes

-- the length of `0x` and hexadecimal digits, or 0 if there are none
abbrev pub hex_len : List ℕ → ℕ
hex_len [] = 0
hex_len (a ∷ []) = 0
hex_len (a ∷ b ∷ cs) = if (a == 48 && b == 120) && not (prefix_len is_hex cs == 0) then 2 + prefix_len is_hex cs else 0

abbrev pub sign_len : List ℕ → ℕ
sign_len [] = 0
sign_len (c ∷ cs) = if c == 43 || c == 45 then 1 else 0

-- the length of `e` or `E`, an optional sign and digits, or 0 if there is no exponent
unfoldable pub exponent_len : List ℕ → ℕ
exponent_len [] = 0
exponent_len (c ∷ cs) =
    if (c == 101 || c == 69) && not (digits_len (drop (sign_len cs) cs) == 0) then 1 + sign_len cs + digits_len (drop (sign_len cs) cs) else 0

-- the length of a dot, optional digits and an optional exponent, or 0 if there is no dot
unfoldable pub fraction_len : List ℕ → ℕ
fraction_len [] = 0
fraction_len (c ∷ cs) = if c == 46 then 1 + digits_len cs + exponent_len (drop (digits_len cs) cs) else 0

-- an integer, or a float if a fraction follows it
abbrev pub decimal_at : ℕ → List ℕ → Option (Lexeme × List ℕ)
decimal_at n bytes =
    if fraction_len (drop n bytes) == 0 then cut integer n bytes else cut float (n + fraction_len (drop n bytes)) bytes

unfoldable pub number_at : List ℕ → Option (Lexeme × List ℕ)
number_at bytes = if hex_len bytes == 0 then decimal_at (digits_len bytes) bytes else cut integer (hex_len bytes) bytes

-- ---- names and strings

-- the length of a suffix identifier: digits, or a run that doesn't begin with a digit
abbrev pub suffix_len : List ℕ → ℕ
suffix_len [] = 0
suffix_len (c ∷ cs) = if is_ascii_digit c then digits_len (c ∷ cs) else prefix_len is_suffix (c ∷ cs)

-- a suffix identifier, and the rest of the text
abbrev pub name_parts : List ℕ → Option (List ℕ × List ℕ)
name_parts bytes = if suffix_len bytes == 0 then None else Some (take (suffix_len bytes) bytes, drop (suffix_len bytes) bytes)

-- the text after the opening quote up to the closing quote, and the rest of the text
abbrev pub string_parts : List ℕ → Option (List ℕ × List ℕ)
string_parts bytes = option_map (λ n. (take n bytes, drop (n + 1) bytes)) (closing bytes)

abbrev pub name_at : (List ℕ → Lexeme) → List ℕ → Option (Lexeme × List ℕ)
name_at make bytes = option_map (λ x. (make x.0, x.1)) (name_parts bytes)

abbrev pub string_at : (List ℕ → Lexeme) → List ℕ → Option (Lexeme × List ℕ)
string_at make bytes = option_map (λ x. (make x.0, x.1)) (string_parts bytes)

-- a symbol after its sigil: a suffix identifier or a string
unfoldable pub symbol_at : List ℕ → Option (Lexeme × List ℕ)
symbol_at [] = None
symbol_at (c ∷ cs) = if c == 34 then string_at quoted cs else name_at symbol (c ∷ cs)

-- ---- punctuation

-- the longer mark if the byte b follows, otherwise the shorter
abbrev pub longer : ℕ → Mark → Mark → List ℕ → Option (Lexeme × List ℕ)
longer b long short [] = Some (mark short, [])
longer b long short (c ∷ cs) = if c == b then Some (mark long, cs) else Some (mark short, c ∷ cs)

abbrev pub mark_of : ℕ → Option Mark
mark_of c =
    if c == 40 then Some OpenRound
    else if c == 41 then Some CloseRound
    else if c == 123 then Some OpenCurly
    else if c == 125 then Some CloseCurly
    else if c == 91 then Some OpenSquare
    else if c == 93 then Some CloseSquare
    else if c == 60 then Some Less
    else if c == 62 then Some Greater
    else if c == 44 then Some Comma
    else if c == 61 then Some Equal
    else if c == 63 then Some Question
    else if c == 42 then Some Star
    else None

abbrev pub mark_at : ℕ → List ℕ → Option (Lexeme × List ℕ)
mark_at b bs =
    if b == 58 then longer 58 DoubleColon Colon bs
    else if b == 45 then longer 62 Arrow Minus bs
    else option_map (λ m. (mark m, bs)) (mark_of b)

-- ---- the next token

-- a name or a string by its sigil or quote, `"`, `%`, `^`, `#`, `!` or `@`, otherwise a punctuation mark
abbrev pub sign_at : ℕ → List ℕ → Option (Lexeme × List ℕ)
sign_at b bs =
    if b == 34 then string_at string bs
    else if b == 37 then name_at value bs
    else if b == 94 then name_at label bs
    else if b == 35 then name_at hash bs
    else if b == 33 then name_at bang bs
    else if b == 64 then symbol_at bs
    else mark_at b bs

-- the token that begins with the byte b
abbrev pub token_at : ℕ → List ℕ → Option (Lexeme × List ℕ)
token_at b bs =
    if is_ascii_digit b then number_at (b ∷ bs)
    else if is_letter b then cut bare (prefix_len is_word (b ∷ bs)) (b ∷ bs)
    else sign_at b bs

-- the end of the text is the mark `End`
abbrev pub first_token : List ℕ → Option (Lexeme × List ℕ)
first_token [] = Some (mark End, [])
first_token (b ∷ bs) = token_at b bs

-- the next token and the rest of the text, or `None` if no token begins there
unfoldable pub next : List ℕ → Option (Lexeme × List ℕ)
next bytes = first_token (skip bytes)

-- the rest of the text after the byte, if the text begins with it
abbrev pub trailing_first : ℕ → List ℕ → Option (List ℕ)
trailing_first b [] = None
trailing_first b (c ∷ cs) = if c == b then Some cs else None

-- whether a token that begins with the byte is no punctuation mark
abbrev pub begins_other : ℕ → Bool
begins_other b = is_ascii_digit b || is_letter b || (b == 34 || b == 37 || b == 94 || b == 35 || b == 33 || b == 64)

-- the punctuation mark of a token, and the rest of the text
abbrev pub mark_with : Lexeme → List ℕ → Option (Mark × List ℕ)
mark_with (mark m) rest = Some (m, rest)
mark_with (integer s) rest = None
mark_with (float s) rest = None
mark_with (string s) rest = None
mark_with (bare s) rest = None
mark_with (value s) rest = None
mark_with (label s) rest = None
mark_with (hash s) rest = None
mark_with (bang s) rest = None
mark_with (symbol s) rest = None
mark_with (quoted s) rest = None

abbrev pub only_mark : Option (Lexeme × List ℕ) → Option (Mark × List ℕ)
only_mark None = None
only_mark (Some t) = mark_with t.0 t.1

-- the next token if it is a punctuation mark, and the rest of the text, or `None`
unfoldable pub next_mark : List ℕ → Option (Mark × List ℕ)
next_mark bytes = only_mark (next bytes)

-- ---- the results of functions

abbrev pub lexeme_of : Token → Lexeme
lexeme_of (code.Mark m) = mark m
lexeme_of (code.Integer s) = integer s.now
lexeme_of (code.Float s) = float s.now
lexeme_of (code.String s) = string s.now
lexeme_of (code.Bare s) = bare s.now
lexeme_of (code.Value s) = value s.now
lexeme_of (code.Label s) = label s.now
lexeme_of (code.Hash s) = hash s.now
lexeme_of (code.Bang s) = bang s.now
lexeme_of (code.Symbol s) = symbol s.now
lexeme_of (code.Quoted s) = quoted s.now
