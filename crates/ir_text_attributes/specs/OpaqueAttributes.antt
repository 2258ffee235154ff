-- Opaque attributes: how they are recognized, and their texts. Builtin Dialect, "Attributes"; Language Reference,
-- "Dialect Attribute Values".
use Rattle.std.specs.Prelude.{ℕ, Bool, true, false, not, ◌&&◌, ◌||◌, ◌==◌, is_some, if◌then◌else◌, List, [], ◌∷◌, ◌++◌, codes, Option, Some, None, option_and_then}
use Rattle.std.specs.List.{list_all}
use Rattle.std.specs.Str.{bytes_eq}
use Rattle.std.specs.Char.{is_ascii_digit}
use Rattle.ir_types.specs.Terms.{TypeTerm, OpaqueType}
use Rattle.ir_text_tokens.specs.declared.token.Mark.{Mark}
use Rattle.ir_text_tokens.specs.declared.token.Mark.TheVariants.{Less, OpenRound}
use Rattle.ir_text_tokens.specs.Tokens.{Lexeme, mark, float, bare, hash, bang, next, skip}
use Rattle.ir_text_tokens.specs.Bodies.{begins}
use Rattle.ir_text_types.specs.Marks.{after, mark_code}
use Rattle.ir_text_types.specs.OpaqueTypes.{is_one_of, with_body, bracketed}
use Rattle.ir_text_types.specs.Scalars.{scalar_of}
use Rattle.ir_text_attributes.specs.declared.tail.Tail.{Tail}
use Rattle.ir_text_attributes.specs.declared.tail.Tail.TheVariants.{SomeType, TypeOrNone, NoType}
use Rattle.ir_text_attributes.specs.Elements.{element_named}

-- the words that a body and a type follow
abbrev pub typed_words : List (List ℕ)
typed_words = codes "dense" ∷ codes "sparse" ∷ codes "dense_resource" ∷ []

-- the words that a body and an optional type follow
abbrev pub bodied_words : List (List ℕ)
bodied_words = codes "affine_map" ∷ codes "affine_set" ∷ codes "strided" ∷ []

abbrev pub distinct_word : List ℕ
distinct_word = codes "distinct"

abbrev pub location_word : List ℕ
location_word = codes "loc"

-- what follows the text of the opaque attribute that begins with a word, if one does
unfoldable pub tail_of : List ℕ → Option Tail
tail_of word =
    if is_one_of typed_words word then Some SomeType
    else if is_one_of bodied_words word then Some TypeOrNone
    else if bytes_eq word distinct_word || bytes_eq word location_word then Some NoType
    else None

-- the same, if opaque attributes are allowed
abbrev pub tail_in : Bool → List ℕ → Option Tail
tail_in false word = None
tail_in true word = tail_of word

-- the text with the body in angle brackets appended, if one follows
abbrev pub with_angles : List ℕ × List ℕ → Option (List ℕ × List ℕ)
with_angles x = if begins 60 (skip x.1) then with_body x.0 (skip x.1) else Some x

-- the text of the opaque attribute that begins with a word, without blanks between its parts, and the rest of the
-- text
unfoldable pub kept_text : List ℕ → List ℕ → Option (List ℕ × List ℕ)
kept_text word rest =
    if bytes_eq word distinct_word then option_and_then with_angles (bracketed 91 word (skip rest))
    else if bytes_eq word location_word then bracketed 40 word (skip rest)
    else bracketed 60 word (skip rest)

-- a string literal with its quotes
abbrev pub quoted_text : List ℕ → List ℕ
quoted_text raw = 34 ∷ (raw ++ 34 ∷ [])

-- digits with an optional minus sign
abbrev pub signed_text : Bool → List ℕ → List ℕ
signed_text negative digits = if negative then 45 ∷ digits else digits

-- hexadecimal digits, which may be the bits of a float
abbrev pub is_hexadecimal : List ℕ → Bool
is_hexadecimal [] = false
is_hexadecimal (c ∷ cs) = (c == 48) && begins 120 cs

abbrev pub is_opaque_type : TypeTerm → Bool
is_opaque_type (OpaqueType text) = true
is_opaque_type _ = false

-- ---- arrays of other element types

-- the text after `i`, `si` or `ui`
abbrev pub after_i : List ℕ → List ℕ
after_i [] = []
after_i (c ∷ cs) = if c == 105 then cs else []

abbrev pub width_digits : List ℕ → List ℕ
width_digits [] = []
width_digits (c ∷ cs) = if c == 105 then cs else if c == 115 || c == 117 then after_i cs else []

abbrev pub are_some_digits : List ℕ → Bool
are_some_digits [] = false
are_some_digits (d ∷ ds) = list_all is_ascii_digit (d ∷ ds)

-- whether a word is an integer type of an invalid width
abbrev pub has_bad_width : List ℕ → Bool
has_bad_width word = are_some_digits (width_digits word) && not (is_some (scalar_of word))

-- whether a token begins an element type that no dense array of integers has
abbrev pub is_other_element : Lexeme → Bool
is_other_element (bare word) = not (is_some (element_named word)) && not (has_bad_width word)
is_other_element (bang name) = true
is_other_element (hash name) = true
is_other_element (float digits) = true
is_other_element (mark m) = mark_code m == 40
is_other_element _ = false

abbrev pub begins_other : List ℕ → Option Bool
begins_other bytes = option_and_then (λ (t : Lexeme × List ℕ). Some (is_other_element t.0)) (next bytes)

abbrev pub is_so : Option Bool → Bool
is_so None = false
is_so (Some b) = b

-- whether the array is opaque, given the text after its word
unfoldable pub opens_other : List ℕ → Bool
opens_other bytes = is_so (option_and_then begins_other (after Less bytes))
