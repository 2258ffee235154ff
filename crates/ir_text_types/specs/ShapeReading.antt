-- Parses a memref's dimensions byte by byte.
use Rattle.std.specs.Prelude.{ℕ, zero, suc, ◌==◌, if◌then◌else◌, List, [], ◌∷◌, ◌++◌, take, drop, Option, Some, None, option_map, option_and_then}
use Rattle.std.specs.Char.{is_ascii_digit}
use Rattle.ir_types.specs.Reasons.{is_dimension}
use Rattle.ir_text_tokens.specs.Tokens.{skip, digits_len}
use Rattle.ir_text_tokens.specs.Numbers.{integer_of}
use Rattle.ir_text_types.specs.ShapeGrammar.{begins_dimension}

-- the rest of the text after an `x`
abbrev pub cross_from : List ℕ → Option (List ℕ)
cross_from [] = None
cross_from (c ∷ cs) = if c == 120 then Some cs else None

unfoldable pub cross_at : List ℕ → Option (List ℕ)
cross_at bytes = cross_from (skip bytes)

-- a dimension, and the rest of the text after its `x`
abbrev pub crossed : Option ℕ → List ℕ → Option (Option ℕ × List ℕ)
crossed d bytes = option_map (λ rest. (d, rest)) (cross_at bytes)

-- the number that the digits denote, if a dimension may be that large
abbrev pub size_of : List ℕ → Option ℕ
size_of digits = if is_dimension (Some (integer_of digits)) then Some (integer_of digits) else None

-- a dimension whose digits are the first n bytes
abbrev pub sized : ℕ → List ℕ → Option (Option ℕ × List ℕ)
sized n bytes = option_and_then (λ size. crossed (Some size) (drop n bytes)) (size_of (take n bytes))

abbrev pub dimension_from : List ℕ → Option (Option ℕ × List ℕ)
dimension_from [] = None
dimension_from (c ∷ cs) = if c == 63 then crossed None cs else if is_ascii_digit c then sized (digits_len (c ∷ cs)) (c ∷ cs) else None

-- one dimension
unfoldable pub dimension_at : List ℕ → Option (Option ℕ × List ℕ)
dimension_at bytes = dimension_from (skip bytes)

-- the dimensions so far and the ones that are left, at most `room`
unfoldable pub dimensions_at : ℕ → List (Option ℕ) → List ℕ → Option (List (Option ℕ) × List ℕ)
dimensions_at zero preceding bytes = if begins_dimension (skip bytes) then None else Some (preceding, bytes)
dimensions_at (suc headroom) preceding bytes =
    if begins_dimension (skip bytes) then option_and_then (λ x. dimensions_at headroom (preceding ++ x.0 ∷ []) x.1) (dimension_at bytes)
    else Some (preceding, bytes)
