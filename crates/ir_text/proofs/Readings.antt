-- Numbers by their sign and magnitude.
use Rattle.std.proofs.Common.{◌≡◌, ℕ, suc, Bool, true, false, ℤ, pos, negsuc, ◌∷◌, List, refl, sym, ap, ◌∙◌, arith}
use Rattle.std.specs.Prelude.{◌==◌, int_lt, unsigned_abs}
use Rattle.std.specs.Ordering.{int_eq}
use Rattle.std.proofs.lemmas.Bool.Decides.{nat_tests}

-- a number is 0 if its magnitude is 0
pub zero_read : (z : ℤ) (m : ℕ) → unsigned_abs z ≡ m → (m == 0) ≡ int_eq z (pos 0)
zero_read (pos n) m e = rw (sym e) (grind (arith, nat_tests))
zero_read (negsuc n) m e = rw (sym e) (grind (arith, nat_tests))
