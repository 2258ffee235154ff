-- Opaque attributes that are parsed back.
use Rattle.std.specs.Prelude.{◌≡◌, ℕ, Bool, false, true, not, ◌&&◌, is_some, List, [], ◌∷◌, Option, None, Some}
use Rattle.std.specs.Char.{is_ascii_digit}
use Rattle.std.specs.Str.{bytes_eq}
use Rattle.ir_types.specs.Terms.{TypeTerm}
use Rattle.ir_text_tokens.specs.declared.token.Mark.TheVariants.{Minus}
use Rattle.ir_text_tokens.specs.Tokens.{Lexeme, mark, integer, float, string, bare, hash, next, skip}
use Rattle.ir_text_tokens.specs.Numbers.{integer_of, below_limit}
use Rattle.ir_text_types.specs.OpaqueTypes.{bracketed, dialect_text}
use Rattle.ir_text_attributes.specs.declared.tail.Tail.{Tail}
use Rattle.ir_text_attributes.specs.declared.tail.Tail.TheVariants.{SomeType, TypeOrNone, OpaqueOrNone, NoType}
use Rattle.ir_text_attributes.specs.OpaqueAttributes.{tail_of, kept_text, quoted_text, is_hexadecimal, is_opaque_type, opens_other}
use Rattle.ir_text_attributes.specs.Literals.{array_word, overflow_word}
use Rattle.ir_text_modules.specs.Kept.{is_all}

-- whether the type, or its absence, may follow the text of an opaque attribute
abbrev pub eligible : Tail → Option TypeTerm → Bool
eligible SomeType ty = is_some ty
eligible TypeOrNone ty = true
eligible OpaqueOrNone None = true
eligible OpaqueOrNone (Some t) = is_opaque_type t
eligible NoType ty = not (is_some ty)

-- the first byte is a digit
abbrev pub begins_digit : List ℕ → Bool
begins_digit [] = false
begins_digit (c ∷ cs) = is_ascii_digit c

-- hexadecimal digits with an opaque type
abbrev pub eligible_digits : List ℕ → Option TypeTerm → Bool
eligible_digits digits ty = is_hexadecimal digits && (is_some (below_limit (integer_of digits)) && (is_some ty && eligible OpaqueOrNone ty))

-- the same for a number after a minus sign
abbrev pub is_negative_by : List ℕ → Option TypeTerm → Lexeme → List ℕ → Bool
is_negative_by text ty (float digits) rest = begins_digit digits && (eligible OpaqueOrNone ty && is_all text (Some (45 ∷ digits, rest)))
is_negative_by text ty (integer digits) rest = eligible_digits digits ty && is_all text (Some (45 ∷ digits, rest))
is_negative_by text ty _ rest = false

abbrev pub is_negative_from : List ℕ → Option TypeTerm → Option (Lexeme × List ℕ) → Bool
is_negative_from text ty None = false
is_negative_from text ty (Some t) = is_negative_by text ty t.0 t.1

-- the same for an attribute that begins with a word, by what follows the word, and for an array of elements that no
-- dense array of integers has
abbrev pub is_word_text : Option Tail → List ℕ → Option TypeTerm → List ℕ → List ℕ → Bool
is_word_text None text ty word rest =
    (bytes_eq word array_word && opens_other rest) && (eligible NoType ty && is_all text (bracketed 60 array_word (skip rest)))
is_word_text (Some tail) text ty word rest = eligible tail ty && is_all text (kept_text word rest)

-- the same for an attribute that begins with a token; `rest` is the text after the token
abbrev pub is_text_after : List ℕ → Option TypeTerm → Lexeme → List ℕ → Bool
is_text_after text ty (bare word) rest = is_word_text (tail_of word) text ty word rest
is_text_after text ty (hash name) rest = not (bytes_eq name overflow_word) && is_all text (dialect_text 35 name rest)
is_text_after text ty (string raw) rest = eligible SomeType ty && is_all text (Some (quoted_text raw, rest))
is_text_after text ty (float digits) rest = begins_digit digits && (eligible OpaqueOrNone ty && is_all text (Some (digits, rest)))
is_text_after text ty (integer digits) rest = eligible_digits digits ty && is_all text (Some (digits, rest))
is_text_after text ty (mark Minus) rest = is_negative_from text ty (next rest)
is_text_after text ty _ rest = false

abbrev pub is_text_from : List ℕ → Option TypeTerm → Option (Lexeme × List ℕ) → Bool
is_text_from text ty None = false
is_text_from text ty (Some t) = is_text_after text ty t.0 t.1

-- the text is one opaque attribute, and the type, or its absence, may follow it
unfoldable pub is_attr_text : List ℕ → Option TypeTerm → Bool
is_attr_text text ty = is_text_from text ty (next text)
