-- The greatest width up to one, step by step.
use Rattle.std.proofs.Common.{◌≡◌, ◌∙◌, ℕ, zero, suc, ◌-◌, ◌<◌, Bool, true, false, if◌then◌else◌, ap, arith}
use Rattle.user_patterns_data.specs.Shapes.{PatternModel}
use Rattle.user_patterns_registry.specs.CheckResult.{is_small, widest}

pub widest_yes : (p : PatternModel) (w : ℕ) → 0 < w → is_small p w ≡ true → widest p w ≡ w
unfolding widest
widest_yes p zero l e = absurd (omega (arith, l))
widest_yes p (suc w) l e = ap (λ (b : Bool). if b then suc w else widest p w) e

pub widest_no : (p : PatternModel) (w : ℕ) → 0 < w → is_small p w ≡ false → widest p w ≡ widest p (w - 1)
unfolding widest
widest_no p zero l e = absurd (omega (arith, l))
widest_no p (suc w) l e =
    let one : w ≡ suc w - 1 = omega arith in
    ap (λ (b : Bool). if b then suc w else widest p w) e ∙ ap (widest p) one
