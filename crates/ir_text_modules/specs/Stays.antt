-- A text that is its own expansion.
use Rattle.std.specs.Prelude.{ℕ, zero, suc, Bool, false, ◌||◌, List, [], ◌∷◌, length, None}
use Rattle.ir_text_aliases.specs.Lexemes.{is_loc, lexeme_len}
use Rattle.ir_text_aliases.specs.Values.{definition_at, is_defined}
use Rattle.ir_text_modules.specs.Expanded.{Expanded}

-- whether the word `loc` or a definition begins with the byte
abbrev pub begins_more : ℕ → List ℕ → Bool
begins_more c cs = is_loc c cs || is_defined (definition_at c cs)

-- whether the word `loc` or a definition begins at any byte of the text
unfoldable pub stands : List ℕ → Bool
stands [] = false
stands (c ∷ cs) = begins_more c cs || stands cs

-- whether a lexeme of the text is the word `loc` or begins a definition; the next `passed` bytes belong to the lexeme
-- before
unfoldable pub has_more : (passed : ℕ) (bytes : List ℕ) → Bool
has_more n [] = false
has_more (suc n) (c ∷ cs) = has_more n cs
has_more zero (c ∷ cs) = begins_more c cs || has_more (lexeme_len c cs) cs

-- an unchanged text, with a mark at its end
abbrev pub as_it_is : List ℕ → Expanded
as_it_is bytes = record { text = bytes; marks = record { scanned = length bytes; past = length bytes; left = 0 } ∷ []; fault = None }
