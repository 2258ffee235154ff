-- String literals: where they end, and which bytes they denote. MLIR Language Reference, "Common syntax".
use Rattle.std.specs.Prelude.{ℕ, suc, ◌+◌, ◌*◌, ◌-◌, Bool, ◌&&◌, ◌||◌, ◌==◌, nat_le, if◌then◌else◌, List, [], ◌∷◌, Option, Some, None, option_map}
use Rattle.std.specs.Char.{is_ascii_digit}
use Rattle.ir_text_tokens.specs.Bytes.{is_hex, is_line_end}

-- a byte that is a complete escape after a backslash: a backslash, a quote, `n` or `t`
abbrev pub is_short : ℕ → Bool
is_short c = ((c == 92 || c == 34) || c == 110) || c == 116

-- the byte that such an escape denotes
abbrev pub short_value : ℕ → ℕ
short_value c = if c == 110 then 10 else if c == 116 then 9 else c

-- the value of a hexadecimal digit
abbrev pub hex_value : ℕ → ℕ
hex_value c =
    if is_ascii_digit c then c - 48
    else if nat_le 97 c && nat_le c 102 then c - 87
    else if nat_le 65 c && nat_le c 70 then c - 55
    else 0

-- the number of bytes before the quote that ends a string
unfoldable mutual
  -- inside the string
  pub closing : List ℕ → Option ℕ
  closing [] = None
  closing (c ∷ cs) =
      if c == 34 then Some 0
      else if c == 92 then option_map suc (closing_escape cs)
      else if is_line_end c then None
      else option_map suc (closing cs)

  -- after a backslash
  pub closing_escape : List ℕ → Option ℕ
  closing_escape [] = None
  closing_escape (c ∷ cs) =
      if is_short c then option_map suc (closing cs)
      else if is_hex c then option_map suc (closing_digit cs)
      else None

  -- after a backslash and a hexadecimal digit
  pub closing_digit : List ℕ → Option ℕ
  closing_digit [] = None
  closing_digit (c ∷ cs) = if is_hex c then option_map suc (closing cs) else None

-- the bytes that the text between two quotes denotes
unfoldable mutual
  pub string_bytes : List ℕ → List ℕ
  string_bytes [] = []
  string_bytes (c ∷ cs) = if c == 92 then escape_bytes cs else c ∷ string_bytes cs

  -- after a backslash
  pub escape_bytes : List ℕ → List ℕ
  escape_bytes [] = []
  escape_bytes (c ∷ cs) = if is_short c then short_value c ∷ string_bytes cs else digit_bytes (hex_value c) cs

  -- after a backslash and a hexadecimal digit of value `high`
  pub digit_bytes : ℕ → List ℕ → List ℕ
  digit_bytes high [] = []
  digit_bytes high (c ∷ cs) = (16 * high + hex_value c) ∷ string_bytes cs

-- the function's list for `Some`, the empty list for `None`
abbrev pub option_list : {A : Type 0} → (A → List ℕ) → Option A → List ℕ
option_list f None = []
option_list f (Some x) = f x
