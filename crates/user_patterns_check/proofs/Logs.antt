-- Logarithms.
use Rattle.std.proofs.Common.{◌≡◌, ◌∙◌, ℕ, zero, suc, ◌+◌, ◌<◌, ◌^◌, ◌==◌, Bool, true, false, Option, Some, None, refl, arith, if◌then◌else◌, eq-eqb}
use Rattle.std.proofs.lemmas.Grind.{common_steps}
use Rattle.std.proofs.lemmas.Option.{none-some, same_Some}
use Rattle.user_patterns_check.specs.Cases.{first_below, or_else}
use Rattle.user_patterns_check.proofs.Found.{below_first, below_more}
use Rattle.user_patterns_check.specs.Outcomes.{log_of}

module _ (a : ℕ) where
  abbrev pub power_at : ℕ → Option ℕ
  power_at k = if a == 2 ^ k then Some k else None

  at_power : (k : ℕ) → a ≡ 2 ^ k → power_at k ≡ Some k
  at_power k e = rw (eq-eqb a (2 ^ k) e) refl

  not_power : (k : ℕ) → (a ≡ 2 ^ k → ⊥) → power_at k ≡ None
  not_power k n = grind (arith, common_steps, n)

  pub logs_more : (k : ℕ) → first_below power_at k ≡ None → (a ≡ 2 ^ k → ⊥) → first_below power_at (k + 1) ≡ None
  logs_more k none n = below_more power_at k none (not_power k n)

  pub logs_found : (w k : ℕ) → k < w → first_below power_at k ≡ None → a ≡ 2 ^ k → log_of w a ≡ Some k
  unfolding log_of
  logs_found w k l none e = below_first power_at k w k none (at_power k e) l

  pub logs_none : (w : ℕ) → first_below power_at w ≡ None → log_of w a ≡ None
  unfolding log_of
  logs_none w none = none

-- a number is below its power of two
pub below_power : (k : ℕ) → k < 2 ^ k
below_power zero = omega arith
below_power (suc k) = let h = below_power k in omega (arith, h)

pub lt_power : (k w : ℕ) → k < w → k < 2 ^ w
lt_power k w l = let h = below_power w in omega (arith, h, l)

-- the logarithm of a number of w bits is below w
pub log_below : (w a k : ℕ) → log_of w a ≡ Some k → k < w
unfolding log_of first_below
log_below zero a k e = absurd (none-some k e)
log_below (suc w) a k e = go (λ i. log_below w a k i) (first_below (λ k. if a == 2 ^ k then Some k else None) w) refl e
  where
    here : (b : Bool) → (if b then Some w else None) ≡ Some k → k < suc w
    here true e = let s : w ≡ k = same_Some _ _ e in omega (arith, s)
    here false e = absurd (none-some k e)

    go : (first_below (λ k. if a == 2 ^ k then Some k else None) w ≡ Some k → k < w) → (o : Option ℕ) → first_below (λ k. if a == 2 ^ k then Some k else None) w ≡ o → or_else o (if a == 2 ^ w then Some w else None) ≡ Some k → k < suc w
    go ih None i e = here (a == 2 ^ w) e
    go ih (Some j) i e = let h = ih (i ∙ e) in omega (arith, h)
