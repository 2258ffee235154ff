-- The printed forms of tokens. MLIR Language Reference, "Common syntax" and "Identifiers and keywords".
use Rattle.std.specs.Prelude.{◌≡◌, ℕ, ◌+◌, ◌-◌, ◌/◌, ◌%◌, ◌<◌, Bool, true, false, not, ◌&&◌, ◌||◌, ◌==◌, nat_lt, nat_le, if◌then◌else◌, List, [], ◌∷◌, ◌++◌, length, flat_map}
use Rattle.std.specs.List.{AllByRecursion, prefix_len}
use Rattle.std.specs.Fmt.{decimal}
use Rattle.std.specs.Char.{is_ascii_digit}
use Rattle.ir_text_tokens.specs.declared.token.Mark.{Mark}
use Rattle.ir_text_tokens.specs.declared.token.Mark.TheVariants.{OpenRound, CloseRound, OpenCurly, CloseCurly, OpenSquare, CloseSquare, Less, Greater, Comma, Equal, Colon, DoubleColon, Minus, Arrow, Question, Star, End}
use Rattle.ir_text_tokens.specs.Bytes.{is_letter, is_suffix, is_word}
use Rattle.ir_text_tokens.specs.Tokens.{Lexeme, mark, integer, float, string, bare, value, label, hash, bang, symbol, quoted, suffix_len}

-- an uppercase hexadecimal digit
abbrev pub hex_digit : ℕ → ℕ
hex_digit n = if nat_lt n 10 then 48 + n else 65 + (n - 10)

-- the printed form of a byte of a string: `\\` for a backslash; a backslash and two hexadecimal digits for a quote
-- and for every byte that isn't printable ASCII; otherwise the byte
abbrev pub byte_text : ℕ → List ℕ
byte_text c =
    if c == 92 then 92 ∷ 92 ∷ []
    else if (nat_le 32 c && nat_le c 126) && not (c == 34) then c ∷ []
    else 92 ∷ hex_digit (c / 16) ∷ hex_digit (c % 16) ∷ []

-- the printed text between the quotes
abbrev pub raw_text : List ℕ → List ℕ
raw_text v = flat_map byte_text v

abbrev pub string_text : List ℕ → List ℕ
string_text v = 34 ∷ (raw_text v ++ 34 ∷ [])

-- a decimal number with its sign
abbrev pub signed_text : Bool → ℕ → List ℕ
signed_text true n = 45 ∷ decimal n
signed_text false n = decimal n

-- a letter or `_`, then bytes of a bare identifier
abbrev pub is_bare_id : List ℕ → Bool
is_bare_id [] = false
is_bare_id (c ∷ cs) = is_letter c && prefix_len is_word cs == length cs

-- a key or a symbol's name: bare if it can be, otherwise a string
abbrev pub key_text : List ℕ → List ℕ
key_text v = if is_bare_id v then v else string_text v

-- a symbol with its sigil
abbrev pub symbol_text : List ℕ → List ℕ
symbol_text v = 64 ∷ key_text v

-- all are bytes
abbrev pub AreBytes : List ℕ → Type 0
AreBytes v = AllByRecursion (λ c. c < 256) v

-- a suffix identifier: digits, or a run that begins with no digit
abbrev pub is_suffix_id : List ℕ → Bool
is_suffix_id v = not (length v == 0) && suffix_len v == length v

-- the printed form of a punctuation mark
abbrev pub mark_text : Mark → List ℕ
mark_text OpenRound = 40 ∷ []
mark_text CloseRound = 41 ∷ []
mark_text OpenCurly = 123 ∷ []
mark_text CloseCurly = 125 ∷ []
mark_text OpenSquare = 91 ∷ []
mark_text CloseSquare = 93 ∷ []
mark_text Less = 60 ∷ []
mark_text Greater = 62 ∷ []
mark_text Comma = 44 ∷ []
mark_text Equal = 61 ∷ []
mark_text Colon = 58 ∷ []
mark_text DoubleColon = 58 ∷ 58 ∷ []
mark_text Minus = 45 ∷ []
mark_text Arrow = 45 ∷ 62 ∷ []
mark_text Question = 63 ∷ []
mark_text Star = 42 ∷ []
mark_text End = []

-- ---- what may follow

-- the text is empty, or its first byte fails the test
abbrev pub Stops : (ℕ → Bool) → List ℕ → Type 0
Stops p [] = Unit {0}
Stops p (c ∷ cs) = p c ≡ false

-- a byte that extends a decimal integer or makes it another token: a digit, a dot or `x`
abbrev pub extends_integer : ℕ → Bool
extends_integer c = (is_ascii_digit c || c == 46) || c == 120

-- the text after a mark doesn't make it a longer mark, and is empty after `End`
abbrev pub ClosesMark : Mark → List ℕ → Type 0
ClosesMark Colon rest = Stops (λ c. c == 58) rest
ClosesMark Minus rest = Stops (λ c. c == 62) rest
ClosesMark End rest = rest ≡ []
ClosesMark _ rest = Unit {0}

-- the text of a token
abbrev pub lexeme_text : Lexeme → List ℕ
lexeme_text (mark m) = mark_text m
lexeme_text (integer ds) = ds
lexeme_text (float ds) = ds
lexeme_text (string raw) = 34 ∷ (raw ++ 34 ∷ [])
lexeme_text (bare w) = w
lexeme_text (value w) = 37 ∷ w
lexeme_text (label w) = 94 ∷ w
lexeme_text (hash w) = 35 ∷ w
lexeme_text (bang w) = 33 ∷ w
lexeme_text (symbol w) = 64 ∷ w
lexeme_text (quoted raw) = 64 ∷ 34 ∷ (raw ++ 34 ∷ [])

-- the bytes that extend a suffix identifier
abbrev pub extends_name : List ℕ → ℕ → Bool
extends_name [] c = is_suffix c
extends_name (w ∷ ws) c = if is_ascii_digit w then is_ascii_digit c else is_suffix c

-- a suffix identifier that the text after it doesn't extend
abbrev pub IsWholeName : List ℕ → List ℕ → Type 0
IsWholeName w rest = (is_suffix_id w ≡ true) × Stops (extends_name w) rest

-- an identifier is valid for its kind, and the text after it doesn't extend it
abbrev pub IsWhole : Lexeme → List ℕ → Type 0
IsWhole (bare w) rest = (is_bare_id w ≡ true) × Stops is_word rest
IsWhole (value w) rest = IsWholeName w rest
IsWhole (label w) rest = IsWholeName w rest
IsWhole (hash w) rest = IsWholeName w rest
IsWhole (bang w) rest = IsWholeName w rest
IsWhole (symbol w) rest = IsWholeName w rest
IsWhole _ rest = Unit {0}
