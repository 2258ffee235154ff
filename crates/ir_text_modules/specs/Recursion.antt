-- Dialect types that contain themselves through an alias. A dialect may name a type in the first argument of its
-- angle brackets, write the type in full once, and refer to it by its name inside itself. An alias inside such a type
-- is replaced by its full value, so the type would begin again.
use Rattle.std.specs.Prelude.{ℕ, Bool, false, not, nat_eq, ◌-◌, ◌&&◌, ◌||◌, ◌==◌, if◌then◌else◌, List, [], ◌∷◌, length, take, drop, Option, Some, None, option_and_then}
use Rattle.std.specs.List.{starts_with}
use Rattle.ir_text_tokens.specs.Bytes.{is_letter}
use Rattle.ir_text_tokens.specs.Tokens.{trailing_first, suffix_len}
use Rattle.ir_text_aliases.specs.Lexemes.{lexeme_len, lexeme_of}
use Rattle.ir_text_aliases.specs.Words.{is_scalar}

-- the rest of the text after a word or string and a comma, unless the word is a type
abbrev pub after_own : List ℕ → Option (List ℕ)
after_own [] = None
after_own (c ∷ cs) = if (c == 34 || is_letter c) && not (is_scalar (lexeme_of c cs)) then trailing_first 44 (drop (lexeme_len c cs) cs) else None

-- the rest of the text after the head of a named dialect type: its sigil and name, an angle bracket, the type's own
-- name, and a comma
abbrev pub after_scanned : List ℕ → Option (List ℕ)
after_scanned [] = None
after_scanned (c ∷ cs) = if c == 33 then option_and_then after_own (trailing_first 60 (drop (suffix_len cs) cs)) else None

unfoldable pub repeats_head : (scanned : List ℕ) → List ℕ → Bool
repeats_head scanned [] = false
repeats_head scanned (c ∷ cs) = starts_with nat_eq (c ∷ cs) scanned || repeats_head scanned cs

abbrev pub repeats_head_after : List ℕ → Option (List ℕ) → Bool
repeats_head_after text None = false
repeats_head_after text (Some rest) = repeats_head (take (length text - length rest) text) rest

-- whether the text begins with the head of such a type and contains that head again
abbrev pub repeats_own_head : List ℕ → Bool
repeats_own_head text = repeats_head_after text (after_scanned text)
