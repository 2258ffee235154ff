-- Printed decimal numbers: below 2 ^ 32, without leading zeros.
use Rattle.std.specs.Prelude.{ℕ, List, [], ◌∷◌, ◌&&◌, ◌==◌, length, Option, None, if◌then◌else◌, nat_lt}
use Rattle.mlir_work_script_base.specs.Numbers.{number_after}

-- the number that a word spells; no digit follows a leading zero
abbrev pub number_of : List ℕ → Option ℕ
number_of [] = None
number_of (d ∷ ds) = if (d == 48) && nat_lt 0 (length ds) then None else number_after 0 (d ∷ ds)
