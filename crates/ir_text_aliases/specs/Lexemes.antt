-- The lexemes of a text, by which aliases and locations are found. MLIR Language Reference, "Common syntax" and
-- "Identifiers and keywords".
use Rattle.std.specs.Prelude.{ℕ, suc, ◌-◌, Bool, false, not, ◌&&◌, ◌||◌, ◌==◌, if◌then◌else◌, List, [], ◌∷◌, length, take, drop, get_or, Option, Some, None}
use Rattle.std.specs.List.{prefix_len}
use Rattle.ir_text_tokens.specs.Bytes.{is_blank, is_letter, is_word}
use Rattle.ir_text_tokens.specs.Strings.{closing}
use Rattle.ir_text_tokens.specs.Tokens.{suffix_len}
use Rattle.ir_text_tokens.specs.Bodies.{are_slashes, begins, is_arrow, is_closed, is_sign}

-- the number of bytes up to the end of the line
abbrev pub line_len : List ℕ → ℕ
line_len bytes = prefix_len (λ c. not (c == 10)) bytes

-- the number of word bytes, which continue a word
abbrev pub word_len : List ℕ → ℕ
word_len bytes = prefix_len is_word bytes

-- `#`, `!`, `%`, `^` or `@`, the sigil of a name
abbrev pub is_name_sign : ℕ → Bool
is_name_sign c = is_sign c || (c == 37 || (c == 94 || c == 64))

-- a quoted symbol
abbrev pub is_quoted : ℕ → List ℕ → Bool
is_quoted c cs = c == 64 && begins 34 cs

-- the length of a string with its closing quote, or of the whole text if the string isn't closed
abbrev pub string_len : Option ℕ → List ℕ → ℕ
string_len None bytes = length bytes
string_len (Some n) bytes = suc n

abbrev pub quoted_len : List ℕ → ℕ
quoted_len bytes = string_len (closing bytes) bytes

-- the last of n bytes of a name begins an arrow
abbrev pub ends_in_arrow : List ℕ → ℕ → Bool
ends_in_arrow bytes n = not (n == 0) && is_arrow (get_or bytes (n - 1) 0) (drop n bytes)

-- the length of a name after `%`, `^` or `@`; an arrow is no part of the name, and no part of a body either
abbrev pub own_len : List ℕ → ℕ
own_len bytes = if ends_in_arrow bytes (suffix_len bytes) then suffix_len bytes - 1 else suffix_len bytes

-- the length of a name after its sigil
abbrev pub named_len : ℕ → List ℕ → ℕ
named_len c cs = if is_sign c then suffix_len cs else own_len cs

-- how many more bytes belong to the lexeme that begins with the byte: those of a string, a quoted symbol, a comment,
-- a name after its sigil, a word, or an arrow
abbrev pub lexeme_len : ℕ → List ℕ → ℕ
lexeme_len c cs =
    if c == 34 then quoted_len cs
    else if is_quoted c cs then suc (quoted_len (drop 1 cs))
    else if are_slashes c cs then line_len cs
    else if is_name_sign c then named_len c cs
    else if is_letter c then word_len cs
    else if is_arrow c cs then 1
    else 0

-- the lexeme that begins with the byte
abbrev pub lexeme_of : ℕ → List ℕ → List ℕ
lexeme_of c cs = c ∷ take (lexeme_len c cs) cs

-- a blank or a comment
abbrev pub is_gap : ℕ → List ℕ → Bool
is_gap c cs = is_blank c || are_slashes c cs

-- a string or a quoted symbol that isn't closed
abbrev pub is_open_string : ℕ → List ℕ → Bool
is_open_string c cs = (c == 34 && not (is_closed (closing cs))) || (is_quoted c cs && not (is_closed (closing (drop 1 cs))))

abbrev pub from_quote : ℕ → List ℕ → List ℕ
from_quote c cs = if is_quoted c cs then cs else c ∷ cs

-- the word `loc`
abbrev pub is_oc : List ℕ → Bool
is_oc [] = false
is_oc (a ∷ []) = false
is_oc (a ∷ b ∷ []) = a == 111 && b == 99
is_oc (a ∷ b ∷ c ∷ cs) = false

abbrev pub is_loc : ℕ → List ℕ → Bool
is_loc c cs = c == 108 && is_oc (take (word_len cs) cs)

-- an alias with its sigil
abbrev pub name_of : ℕ → List ℕ → List ℕ
name_of c cs = c ∷ take (suffix_len cs) cs
