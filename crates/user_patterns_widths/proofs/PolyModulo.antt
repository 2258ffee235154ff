-- Congruence modulo a number, and modulo the powers of 2 up to 2^128.
use Rattle.std.proofs.Common.{zero-add, ◌≡◌, ℕ, ◌+◌, ◌-◌, ◌*◌, ◌%◌, ◌^◌, ◌≤◌, sym, ap, refl, ◌∙◌, arith}
use Rattle.std.proofs.lemmas.Nat.{mul-mod, pow-add}
use Rattle.std.proofs.Math.Pow.{mod-mod-pow}
use Rattle.std.proofs.Math.Nat.{add-mod, mod_self, mul-mod_left, zero-mod}
use Rattle.user_patterns_widths.specs.Polynomials.{coefficient}

module _ (m : ℕ) where
  abbrev pub IsSame : ℕ → ℕ → Type 0
  IsSame a b = a % m ≡ b % m

  pub sums_same : (a b c d : ℕ) → IsSame a b → IsSame c d → IsSame (a + c) (b + d)
  sums_same a b c d e f = add-mod a c m ∙ (λ i. (e i + f i) % m) ∙ sym (add-mod b d m)

  pub products_same : (a b c d : ℕ) → IsSame a b → IsSame c d → IsSame (a * c) (b * d)
  products_same a b c d e f = mul-mod a c m ∙ (λ i. (e i * f i) % m) ∙ sym (mul-mod b d m)

  -- two numbers with the same negation are congruent
  pub others_same : (a b n : ℕ) → IsSame (a + n) 0 → IsSame (b + n) 0 → IsSame a b
  others_same a b n e f =
      let one = sums_same (a + n) 0 b b e refl ∙ ap (λ k. k % m) (zero-add b) in
      let two = sums_same (b + n) 0 a a f refl ∙ ap (λ k. k % m) (zero-add a) in
      let left : b + n + a ≡ a + n + b = omega arith in
      sym two ∙ ap (λ k. k % m) left ∙ one

  -- a multiple of the modulus is congruent to 0
  pub multiple_none : (k : ℕ) → IsSame (k * m) 0
  multiple_none k = mul-mod_left k m ∙ sym (zero-mod m)

  pub itself_none : IsSame m 0
  itself_none = mod_self m ∙ sym (zero-mod m)

-- a number modulo 2^128 is congruent to the number modulo 2^w
pub reduced : (w n : ℕ) → w ≤ 128 → IsSame (2 ^ w) (coefficient n) n
reduced w n h =
    let e : 128 - w + w ≡ 128 = omega arith in
    ap (λ k. n % 2 ^ k % 2 ^ w) (sym e) ∙ mod-mod-pow n (128 - w) w

pub whole_none : (w : ℕ) → w ≤ 128 → IsSame (2 ^ w) (2 ^ 128) 0
whole_none w h =
    let e : 128 - w + w ≡ 128 = omega arith in
    let whole : 2 ^ 128 ≡ 2 ^ (128 - w) * 2 ^ w = ap (λ n. 2 ^ n) (sym e) ∙ pow-add 2 (128 - w) w in
    ap (λ n. n % 2 ^ w) whole ∙ multiple_none (2 ^ w) (2 ^ (128 - w))
