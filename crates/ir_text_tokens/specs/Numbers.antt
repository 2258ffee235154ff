-- The values of integer tokens. MLIR Language Reference, "Common syntax".
use Rattle.std.specs.Prelude.{ℕ, ◌+◌, ◌*◌, ◌^◌, Bool, false, ◌&&◌, ◌==◌, nat_lt, if◌then◌else◌, List, [], ◌∷◌, length, drop, Option, Some, None}
use Rattle.ir_text_tokens.specs.Strings.{hex_value}

-- the number that the digits denote in a base
unfoldable pub place_value : ℕ → List ℕ → ℕ
place_value base [] = 0
place_value base (d ∷ ds) = hex_value d * base ^ length ds + place_value base ds

abbrev pub begins_hex : List ℕ → Bool
begins_hex [] = false
begins_hex (a ∷ []) = false
begins_hex (a ∷ b ∷ ds) = a == 48 && b == 120

-- decimal, or hexadecimal with the prefix `0x`
abbrev pub integer_of : List ℕ → ℕ
integer_of bytes = if begins_hex bytes then place_value 16 (drop 2 bytes) else place_value 10 bytes

-- a number of at most 128 bits
abbrev pub below_limit : ℕ → Option ℕ
below_limit n = if nat_lt n (2 ^ 128) then Some n else None
