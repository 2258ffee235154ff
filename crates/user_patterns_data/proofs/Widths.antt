-- A width w is a number of w bits.
use Rattle.std.proofs.Common.{◌≡◌, ℕ, ◌^◌, ◌%◌}
use Rattle.std.proofs.Math.Nat.{mod-eq_of_lt}
use Rattle.user_patterns_check.proofs.Logs.{below_power}

pub width_as_value : (w : ℕ) → w % 2 ^ w ≡ w
width_as_value w = mod-eq_of_lt (below_power w)
