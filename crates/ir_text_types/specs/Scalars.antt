-- The types of one word, and the word `memref`. Builtin Dialect, "Types".
use Rattle.std.specs.Prelude.{ℕ, Bool, true, not, ◌&&◌, ◌==◌, if◌then◌else◌, List, [], ◌∷◌, codes, Option, Some, None, option_map}
use Rattle.std.specs.List.{list_all}
use Rattle.std.specs.Str.{bytes_eq}
use Rattle.std.specs.Char.{is_ascii_digit}
use Rattle.ir_types.specs.declared.node.Sign.TheVariants.{Signless, Signed, Unsigned}
use Rattle.ir_types.specs.declared.node.TypeNode.{TypeNode}
use Rattle.ir_types.specs.declared.node.TypeNode.TheVariants.{Int, Index}
use Rattle.ir_types.specs.Reasons.{is_width}
use Rattle.ir_text_tokens.specs.Numbers.{integer_of}

abbrev pub begins_zero : List ℕ → Bool
begins_zero [] = true
begins_zero (d ∷ ds) = d == 48

-- a number as a width
abbrev pub within : ℕ → Option ℕ
within n = if is_width n then Some n else None

-- a width is a decimal number without a leading zero
abbrev pub width_of : List ℕ → Option ℕ
width_of ds = if not (begins_zero ds) && list_all is_ascii_digit ds then within (integer_of ds) else None

-- the type after an `s` or a `u`
abbrev pub signed_of_word : ℕ → List ℕ → Option TypeNode
signed_of_word c [] = None
signed_of_word c (d ∷ ds) =
    if d == 105 then (if c == 115 then option_map (Int Signed) (width_of ds) else if c == 117 then option_map (Int Unsigned) (width_of ds) else None)
    else None

-- `iN`, `siN` or `uiN`
abbrev pub integer_type_of : List ℕ → Option TypeNode
integer_type_of [] = None
integer_type_of (c ∷ ds) = if c == 105 then option_map (Int Signless) (width_of ds) else signed_of_word c ds

abbrev pub index_word : List ℕ
index_word = codes "index"

-- the type that a word names
unfoldable pub scalar_of : List ℕ → Option TypeNode
scalar_of word = if bytes_eq word index_word then Some Index else integer_type_of word

-- the word before a memref's dimensions and element type
abbrev pub memref_word : List ℕ
memref_word = codes "memref"
