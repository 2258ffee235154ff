-- The integers in the range of a type, by their sign and magnitude.
use Rattle.std.specs.Prelude.{ℕ, ◌-◌, ◌^◌, Bool, false, nat_lt, nat_le, ◌==◌, if◌then◌else◌, ℤ, pos, unsigned_abs, int_lt}
use Rattle.ir_types.specs.declared.node.Sign.TheVariants.{Signless, Signed, Unsigned}
use Rattle.ir_types.specs.Terms.{TypeTerm, Integer, Index}
use Rattle.ir_types.specs.Limits.{index_width}

-- -2^(w-1) to 2^(w-1) - 1
abbrev pub is_signed : ℕ → Bool → ℕ → Bool
is_signed w negative m = if negative then nat_le m (2 ^ (w - 1)) else nat_lt m (2 ^ (w - 1))

-- 0 to 2^w - 1, and -0
abbrev pub is_unsigned : ℕ → Bool → ℕ → Bool
is_unsigned w negative m = if negative then (m == 0) else nat_lt m (2 ^ w)

-- the literals of a type: for a signless type -2^(w-1) to 2^w - 1, since they are taken modulo 2^w; index is signed; no
-- other type has literals
abbrev pub is_literal : TypeTerm → Bool → ℕ → Bool
is_literal (Integer Signless w) negative m = if negative then nat_le m (2 ^ (w - 1)) else nat_lt m (2 ^ w)
is_literal (Integer Signed w) negative m = is_signed w negative m
is_literal (Integer Unsigned w) negative m = is_unsigned w negative m
is_literal Index negative m = is_signed index_width negative m
is_literal _ negative m = false

-- the values of a type in printed form: signless ones are signed
abbrev pub is_value : TypeTerm → Bool → ℕ → Bool
is_value (Integer Signless w) negative m = is_signed w negative m
is_value (Integer Signed w) negative m = is_signed w negative m
is_value (Integer Unsigned w) negative m = is_unsigned w negative m
is_value Index negative m = is_signed index_width negative m
is_value _ negative m = false

-- whether an integer is a literal, by its sign and magnitude
abbrev pub is_literal_number : TypeTerm → ℤ → Bool
is_literal_number ty v = is_literal ty (int_lt v (pos 0)) (unsigned_abs v)

abbrev pub is_signed_number : ℕ → ℤ → Bool
is_signed_number w v = is_signed w (int_lt v (pos 0)) (unsigned_abs v)

abbrev pub is_value_number : TypeTerm → ℤ → Bool
is_value_number ty v = is_value ty (int_lt v (pos 0)) (unsigned_abs v)
