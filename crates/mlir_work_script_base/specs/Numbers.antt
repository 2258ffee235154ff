-- Decimal numbers in scripts. Each is below 2 ^ 32 and may have leading zeros.
use Rattle.std.specs.Prelude.{ℕ, ◌+◌, ◌-◌, ◌*◌, ◌^◌, List, [], ◌∷◌, ◌&&◌, ◌==◌, length, Option, Some, None}
use Rattle.std.specs.Prelude.{if◌then◌else◌, nat_lt}
use Rattle.std.specs.Str.{all_ascii_digits}

-- the value of the digits of `n` followed by these digits
abbrev pub value_after : ℕ → List ℕ → ℕ
value_after n [] = n
value_after n (d ∷ ds) = value_after (n * 10 + (d - 48)) ds

-- the same number, if these are digits and the number doesn't overflow
abbrev pub number_after : ℕ → List ℕ → Option ℕ
number_after n ds = if all_ascii_digits ds && nat_lt (value_after n ds) (2 ^ 32) then Some (value_after n ds) else None

-- the number of a word with at least one digit
abbrev pub number_of : List ℕ → Option ℕ
number_of word = if length word == 0 then None else number_after 0 word
