-- The words that begin an attribute or a type. MLIR Language Reference, "Type System" and "Attributes"; Builtin
-- Dialect, "Types" and "Attributes".
use Rattle.std.specs.Prelude.{ℕ, Bool, false, not, ◌&&◌, ◌||◌, ◌==◌, if◌then◌else◌, List, [], ◌∷◌, codes}
use Rattle.std.specs.List.{list_all}
use Rattle.std.specs.Str.{bytes_eq}
use Rattle.std.specs.Char.{is_ascii_digit}
use Rattle.ir_text_tokens.specs.Bodies.{is_none}
use Rattle.ir_text_types.specs.OpaqueTypes.{is_alone, is_one_of}

-- the words that are attributes by themselves
abbrev pub lone_words : List (List ℕ)
lone_words = codes "true" ∷ codes "false" ∷ codes "unit" ∷ []

-- the words of elements, which continue with angle brackets and a type
abbrev pub element_words : List (List ℕ)
element_words = codes "dense" ∷ codes "sparse" ∷ codes "dense_resource" ∷ []

-- the words of attributes, and the words of types, that continue with angle brackets only
abbrev pub listed_words : List (List ℕ)
listed_words = codes "array" ∷ codes "affine_map" ∷ codes "affine_set" ∷ codes "strided" ∷ []

abbrev pub shaped_words : List (List ℕ)
shaped_words = codes "tensor" ∷ codes "vector" ∷ codes "complex" ∷ codes "tuple" ∷ codes "memref" ∷ []

unfoldable pub is_lone : List ℕ → Bool
is_lone word = is_one_of lone_words word

unfoldable pub is_element : List ℕ → Bool
is_element word = is_one_of element_words word

unfoldable pub is_listed : List ℕ → Bool
is_listed word = is_one_of listed_words word

unfoldable pub is_shaped : List ℕ → Bool
is_shaped word = is_one_of shaped_words word

-- `loc` continues with round brackets, and `distinct` with square and angle brackets
unfoldable pub is_place_word : List ℕ → Bool
is_place_word word = bytes_eq word (codes "loc")

unfoldable pub is_distinct : List ℕ → Bool
is_distinct word = bytes_eq word (codes "distinct")

-- ---- types of one word

-- one or more digits
abbrev pub is_width : List ℕ → Bool
is_width digits = not (is_none digits) && list_all is_ascii_digit digits

abbrev pub is_signed_width : List ℕ → Bool
is_signed_width [] = false
is_signed_width (d ∷ ds) = d == 105 && is_width ds

-- `iN`, `siN` or `uiN` with any width
abbrev pub is_integer_word : List ℕ → Bool
is_integer_word [] = false
is_integer_word (c ∷ ds) = if c == 105 then is_width ds else (c == 115 || c == 117) && is_signed_width ds

unfoldable pub is_scalar : List ℕ → Bool
is_scalar word = is_alone word || (bytes_eq word (codes "index") || is_integer_word word)
