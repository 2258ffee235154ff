-- Opaque types: how they are recognized, and their texts. Builtin Dialect, "Types"; Language Reference, "Dialect
-- Types".
use Rattle.std.specs.Prelude.{ℕ, Bool, true, false, not, ◌&&◌, ◌||◌, if◌then◌else◌, List, [], ◌∷◌, ◌++◌, codes, Option, Some, None, option_map}
use Rattle.std.specs.List.{list_any}
use Rattle.std.specs.Str.{bytes_eq}
use Rattle.ir_text_tokens.specs.Tokens.{skip}
use Rattle.ir_text_tokens.specs.Bodies.{begins, has_dot, is_plain_memref, body_at}
use Rattle.ir_text_types.specs.Scalars.{memref_word}

-- floats of 16 bits or more, and `none`
abbrev pub wide_words : List (List ℕ)
wide_words = codes "f16" ∷ codes "bf16" ∷ codes "tf32" ∷ codes "f32" ∷ codes "f64" ∷ codes "f80" ∷ codes "f128" ∷ codes "none" ∷ []

-- floats of 8, 6 and 4 bits
abbrev pub narrow_words : List (List ℕ)
narrow_words =
    codes "f8E5M2" ∷ codes "f8E4M3" ∷ codes "f8E4M3FN" ∷ codes "f8E5M2FNUZ" ∷ codes "f8E4M3FNUZ" ∷ codes "f8E4M3B11FNUZ" ∷ codes "f8E3M4" ∷ codes "f8E8M0FNU"
    ∷ codes "f6E2M3FN" ∷ codes "f6E3M2FN" ∷ codes "f4E2M1FN" ∷ []

-- the words that a body in angle brackets follows
abbrev pub angled_words : List (List ℕ)
angled_words = codes "tensor" ∷ codes "vector" ∷ codes "complex" ∷ codes "tuple" ∷ []

abbrev pub is_one_of : List (List ℕ) → List ℕ → Bool
is_one_of words word = list_any (bytes_eq word) words

-- a word that is a whole type
unfoldable pub is_alone : List ℕ → Bool
is_alone word = is_one_of wide_words word || is_one_of narrow_words word

unfoldable pub is_angled : List ℕ → Bool
is_angled word = is_one_of angled_words word

-- whether a word begins an opaque type, given the text after it; a memref is opaque if its body isn't plain
-- dimensions and an element type
abbrev pub is_opaque_word : List ℕ → List ℕ → Bool
is_opaque_word word rest = (is_alone word || is_angled word) || (bytes_eq word memref_word && not (is_plain_memref rest))

-- `front` with the body appended, and the rest of the text
abbrev pub with_body : List ℕ → List ℕ → Option (List ℕ × List ℕ)
with_body preceding bytes = option_map (λ (b : List ℕ × List ℕ). (preceding ++ b.0, b.1)) (body_at bytes)

-- the same, if the body begins with this bracket
abbrev pub bracketed : ℕ → List ℕ → List ℕ → Option (List ℕ × List ℕ)
bracketed bracket preceding bytes = if begins bracket bytes then with_body preceding bytes else None

-- the text of an opaque type that begins with a word, without blanks after the word, and the rest of the text
abbrev pub word_text : List ℕ → List ℕ → Option (List ℕ × List ℕ)
word_text word rest = if is_alone word then Some (word, rest) else bracketed 60 word (skip rest)

-- the text that a dialect's name begins, with its sigil: the name and the body directly after it, or the name alone
-- if it has a dot
abbrev pub dialect_text : ℕ → List ℕ → List ℕ → Option (List ℕ × List ℕ)
dialect_text sign name rest =
    if begins 60 rest then with_body (sign ∷ name) rest
    else if has_dot name then Some (sign ∷ name, rest)
    else None
