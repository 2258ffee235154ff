-- The grammar of a memref's dimensions, byte by byte. Builtin Dialect, "MemRefType".
use Rattle.std.specs.Prelude.{◌≡◌, ◌≤◌, ℕ, Bool, true, false, ◌||◌, ◌==◌, List, [], ◌∷◌, ◌++◌, length, Option, Some, None}
use Rattle.std.specs.List.{list_all}
use Rattle.std.specs.Char.{is_ascii_digit}
use Rattle.ir_text_tokens.specs.Tokens.{skip}
use Rattle.ir_text_tokens.specs.Numbers.{place_value}
use Rattle.ir_text_types.specs.Grammars.{Grammar}

-- one or more decimal digits
abbrev pub is_decimal : List ℕ → Bool
is_decimal [] = false
is_decimal (d ∷ ds) = list_all is_ascii_digit (d ∷ ds)

-- the first byte is `?` or a digit
abbrev pub begins_dimension : List ℕ → Bool
begins_dimension [] = false
begins_dimension (c ∷ cs) = c == 63 || is_ascii_digit c

-- the byte `x` after blanks and comments
abbrev pub IsCross : (old new : List ℕ) → Type 0
IsCross old new = skip old ≡ 120 ∷ new

-- `?` or decimal digits after blanks and comments, and then an `x`
abbrev pub IsDimension : Grammar (List ℕ) (Option ℕ)
IsDimension None old new = (mid : List ℕ) × (skip old ≡ 63 ∷ mid) × IsCross mid new
IsDimension (Some size) old new = (digits : List ℕ) × (mid : List ℕ) × (skip old ≡ digits ++ mid) × (is_decimal digits ≡ true) × (size ≡ place_value 10 digits) × IsCross mid new

-- dimensions, until the next byte begins none
abbrev pub AreDimensions : Grammar (List ℕ) (List (Option ℕ))
AreDimensions [] old new = (begins_dimension (skip old) ≡ false) × (new ≡ old)
AreDimensions (d ∷ ds) old new = (mid : List ℕ) × IsDimension d old mid × AreDimensions ds mid new

-- at most `room` dimensions
abbrev pub IsShape : ℕ → Grammar (List ℕ) (List (Option ℕ))
IsShape headroom dims old new = (length dims ≤ headroom) × AreDimensions dims old new
