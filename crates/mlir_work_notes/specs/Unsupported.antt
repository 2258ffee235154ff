-- The unsupported MLIR construct at which a text was refused, from the text at the refused byte.
use Rattle.std.specs.Prelude.{ℕ, List, [], ◌∷◌, ◌==◌, ◌||◌, Bool, if◌then◌else◌, codes, drop, take, nat_eq}
use Rattle.std.specs.Char.{is_ascii_digit}
use Rattle.std.specs.List.{list_any, prefix_len, starts_with}
use Rattle.std.specs.Str.{bytes_eq}
use Rattle.ir_text_tokens.specs.Bytes.{is_letter, is_word}
use Rattle.mlir_work_notes.specs.declared.unsupported.UnsupportedConstruct.{UnsupportedConstruct}
use Rattle.mlir_work_notes.specs.declared.unsupported.UnsupportedConstruct.TheVariants.{Affine, Alias, BetweenLines, ElementsAttribute, DialectAttribute, DialectType, Float, FloatType, Location, Other, OtherType, CustomForm, Symbol, TensorType, VectorType, Word}

-- the word of a construct
abbrev pub construct_word : UnsupportedConstruct → List ℕ
construct_word CustomForm = codes "pretty-form"
construct_word Alias = codes "alias"
construct_word Location = codes "location"
construct_word FloatType = codes "float-type"
construct_word TensorType = codes "tensor-type"
construct_word VectorType = codes "vector-type"
construct_word OtherType = codes "other-type"
construct_word DialectType = codes "dialect-type"
construct_word DialectAttribute = codes "dialect-attribute"
construct_word Float = codes "float"
construct_word ElementsAttribute = codes "dense"
construct_word Affine = codes "affine"
construct_word Symbol = codes "symbol"
construct_word BetweenLines = codes "between-lines"
construct_word Word = codes "word"
construct_word Other = codes "other"

-- the bare identifier at the start of a text
abbrev pub word_at : List ℕ → List ℕ
word_at text = take (prefix_len is_word text) text

abbrev pub has_dot : List ℕ → Bool
has_dot word = list_any (λ b. b == 46) word

-- the floating-point types; the names of small floats begin with `f8E4M3FN`, `f6E2M3FN` or `f4E2M1FN`
abbrev pub is_float : List ℕ → Bool
is_float word =
    bytes_eq word (codes "f32") || (bytes_eq word (codes "f64") || (bytes_eq word (codes "f16") || (bytes_eq word (codes "bf16")
    || (bytes_eq word (codes "tf32") || (bytes_eq word (codes "f80") || (bytes_eq word (codes "f128")
    || (starts_with nat_eq word (codes "f8E") || (starts_with nat_eq word (codes "f6E") || starts_with nat_eq word (codes "f4E")))))))))

abbrev pub is_other_type : List ℕ → Bool
is_other_type word =
    bytes_eq word (codes "complex") || (bytes_eq word (codes "tuple") || bytes_eq word (codes "none"))

abbrev pub is_dense : List ℕ → Bool
is_dense word =
    bytes_eq word (codes "dense") || (bytes_eq word (codes "dense_resource") || bytes_eq word (codes "sparse"))

abbrev pub is_affine : List ℕ → Bool
is_affine word = bytes_eq word (codes "affine_map") || bytes_eq word (codes "affine_set")

-- an operation in custom form has its dialect before a dot, except for those of `builtin`
abbrev pub is_pretty : List ℕ → Bool
is_pretty word = has_dot word || bytes_eq word (codes "module")

-- the construct of a word
abbrev pub construct_of_word : List ℕ → UnsupportedConstruct
construct_of_word word =
    if bytes_eq word (codes "loc") then Location
    else if is_float word then FloatType
    else if bytes_eq word (codes "tensor") then TensorType
    else if bytes_eq word (codes "vector") then VectorType
    else if is_other_type word then OtherType
    else if is_dense word then ElementsAttribute
    else if is_affine word then Affine
    else if is_pretty word then CustomForm
    else Word

-- the construct of a name after `#` or `!`: a name without a dot is an alias
abbrev pub construct_of_name : UnsupportedConstruct → List ℕ → UnsupportedConstruct
construct_of_name dialect rest = if has_dot (word_at rest) then dialect else Alias

-- an opaque type or attribute has no line end, tab or comment between its brackets
abbrev pub is_between_lines : ℕ → Bool
is_between_lines b = (b == 9) || ((b == 10) || ((b == 13) || (b == 47)))

-- the construct by the first byte
abbrev pub construct_of_byte : ℕ → UnsupportedConstruct
construct_of_byte b =
    if is_ascii_digit b || ((b == 45) || (b == 43)) then Float
    else if b == 64 then Symbol
    else if is_between_lines b then BetweenLines
    else Other

-- the construct at the start of a text
abbrev pub construct_of : List ℕ → UnsupportedConstruct
construct_of [] = Other
construct_of (b ∷ bs) =
    if b == 35 then construct_of_name DialectAttribute bs
    else if b == 33 then construct_of_name DialectType bs
    else if is_letter b then construct_of_word (word_at (b ∷ bs))
    else construct_of_byte b

-- the construct at the byte at which a text was refused
abbrev pub unsupported_at : List ℕ → ℕ → UnsupportedConstruct
unsupported_at text offset = construct_of (drop offset text)
