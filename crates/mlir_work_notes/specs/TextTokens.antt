-- The token at a byte of a text, and how a message says what is found there.
use Rattle.std.specs.Prelude.{ℕ, suc, List, [], ◌∷◌, ◌++◌, ◌==◌, ◌||◌, ◌&&◌, Bool, not, if◌then◌else◌, codes, drop, take, length, nat_eq, nat_le, nat_lt, min}
use Rattle.std.specs.Char.{is_ascii_alphanumeric}
use Rattle.std.specs.List.{prefix_len, starts_with}

-- letters, digits, `_`, `$` and `.`
abbrev pub is_word : ℕ → Bool
is_word b = is_ascii_alphanumeric b || ((b == 95) || ((b == 36) || (b == 46)))

-- the same, and `-`
abbrev pub is_name : ℕ → Bool
is_name b = is_word b || (b == 45)

-- `%`, `^`, `#`, `!` and `@`
abbrev pub is_sigil : ℕ → Bool
is_sigil b = (b == 37) || ((b == 94) || ((b == 35) || ((b == 33) || (b == 64))))

-- printable ASCII other than a quote
abbrev pub is_inside : ℕ → Bool
is_inside b = nat_le 32 b && (nat_lt b 127 && not (b == 34))

-- `->` or `=>`
abbrev pub is_arrow : ℕ → List ℕ → Bool
is_arrow b bs = ((b == 45) || (b == 61)) && starts_with nat_eq bs (codes ">")

abbrev pub inside_len : List ℕ → ℕ
inside_len bs = prefix_len is_inside bs

-- a string without its first quote: with the last quote, if there is one
abbrev pub string_len : List ℕ → ℕ
string_len bs =
    if starts_with nat_eq (drop (inside_len bs) bs) (codes "\"") then suc (inside_len bs) else inside_len bs

abbrev pub name_len : List ℕ → ℕ
name_len bs = prefix_len is_name bs

abbrev pub word_len : List ℕ → ℕ
word_len bs = prefix_len is_word bs

-- how many bytes of a token follow its first byte
abbrev pub after_first_len : ℕ → List ℕ → ℕ
after_first_len b bs =
    if b == 34 then string_len bs
    else if is_sigil b then name_len bs
    else if is_word b then word_len bs
    else if is_arrow b bs then 1
    else 0

-- the length of the token at the start of a text; none begins at a byte that isn't printable
abbrev pub token_len : List ℕ → ℕ
token_len [] = 0
token_len (b ∷ bs) = if (b == 34) || is_inside b then suc (after_first_len b bs) else 0

-- the token at a byte, at most 60 bytes of it
abbrev pub token_at : List ℕ → ℕ → List ℕ
token_at text offset = take (min (token_len (drop offset text)) 60) (drop offset text)

-- a token in backticks; none is at a byte that isn't printable
abbrev pub quoted_token : List ℕ → List ℕ
quoted_token [] = codes "found another byte, "
quoted_token (b ∷ bs) = (codes "found `" ++ (b ∷ bs)) ++ codes "`, "

-- what is found at a byte
abbrev pub found_text : List ℕ → ℕ → List ℕ
found_text text offset =
    if nat_le (length text) offset then codes "found the end of the text, " else quoted_token (token_at text offset)
