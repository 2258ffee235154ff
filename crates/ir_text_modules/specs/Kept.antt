-- Opaque types that are parsed back.
use Rattle.std.specs.Prelude.{◌≡◌, ℕ, Bool, false, true, ◌&&◌, if◌then◌else◌, List, Option, None, Some}
use Rattle.std.specs.Str.{bytes_eq}
use Rattle.ir_text_tokens.specs.Bytes.{is_suffix, is_word}
use Rattle.ir_text_tokens.specs.Printing.{Stops}
use Rattle.ir_text_tokens.specs.Tokens.{Lexeme, bare, bang, next}
use Rattle.ir_text_tokens.specs.Bodies.{begins, is_none}
use Rattle.ir_text_types.specs.OpaqueTypes.{is_opaque_word, word_text, dialect_text}

-- whether the text that was found is the whole text, with no rest
abbrev pub is_all : List ℕ → Option (List ℕ × List ℕ) → Bool
is_all text None = false
is_all text (Some x) = bytes_eq x.0 text && is_none x.1

-- the text of the opaque type that begins with a token, and the rest; `rest` is the text after the token
abbrev pub kept_after : Lexeme → List ℕ → Option (List ℕ × List ℕ)
kept_after (bare word) rest = if is_opaque_word word rest then word_text word rest else None
kept_after (bang name) rest = dialect_text 33 name rest
kept_after _ rest = None

abbrev pub kept_from : Option (Lexeme × List ℕ) → Option (List ℕ × List ℕ)
kept_from None = None
kept_from (Some t) = kept_after t.0 t.1

-- the text is one opaque type
unfoldable pub is_type_text : List ℕ → Bool
is_type_text text = is_all text (kept_from (next text))

-- what may follow a type: a text that doesn't extend a word, and with opaque types, doesn't extend a name and doesn't
-- begin with `<`
abbrev pub EndsType : Bool → List ℕ → Type 0
EndsType false rest = Stops is_word rest
EndsType true rest = Stops is_suffix rest × (begins 60 rest ≡ false)
