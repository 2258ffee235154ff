-- Maps with number keys.
use Rattle.std.proofs.Common.{◌≡◌, ℕ, eqb, arith}
use Rattle.std.specs.Ordering.{nat_cmp, eq_by_cmp}
use Rattle.std.proofs.lemmas.Bool.Decides.{nat_tests}

pub eq_nat : (a b : ℕ) → eq_by_cmp nat_cmp a b ≡ eqb a b
eq_nat a b = grind (arith, nat_tests)
