-- Remainders by powers of 2, and signed values.
use Rattle.std.proofs.Common.{◌≡◌, ℕ, zero, suc, lit<, ◌+◌, ◌-◌, ◌*◌, ◌%◌, ◌^◌, ◌<◌, ◌≤◌, pos, ◌-ℤ◌, ◌+ℤ◌, sym, ap, refl, ◌∙◌, arith}
use Rattle.std.specs.Prelude.{bit_and, unsigned_abs}
use Rattle.std.proofs.lemmas.Nat.{and_mask, pow_pos, pow-add}
use Rattle.std.proofs.lemmas.Int.{ints, int_rem_euclid_is}
use Rattle.std.proofs.Math.Pow.{mod-mod-pow}
use Rattle.std.proofs.Math.Nat.{pow-le-pow_right, add-mul-mod_self_right}
use Rattle.ir_types.specs.Readings.{wrapped}
use Rattle.dialects_int.specs.Arithmetic.{difference_of}

-- the mask of w bits after a wrap at 128 bits
pub masked : (n w : ℕ) → w ≤ 128 → bit_and (n % 2 ^ 128) (2 ^ w - 1) ≡ n % 2 ^ w
masked n w h =
    let e : 128 - w + w ≡ 128 = omega arith in
    and_mask (n % 2 ^ 128) w ∙ ap (λ k. n % 2 ^ k % 2 ^ w) (sym e) ∙ mod-mod-pow n (128 - w) w

one_less : (k m : ℕ) → 0 < k → (k - 1) * m + m ≡ k * m
one_less zero m h = absurd (omega arith)
one_less (suc k) m h = grind arith

-- subtracting from 2 ^ 128 equals subtracting from 2 ^ w, modulo 2 ^ w
pub less_at : (a b w : ℕ) → w ≤ 128 → b ≤ 2 ^ w → (a + (2 ^ 128 - b)) % 2 ^ w ≡ (a + (2 ^ w - b)) % 2 ^ w
less_at a b w h k =
    let e : 128 - w + w ≡ 128 = omega arith in
    let whole : 2 ^ 128 ≡ 2 ^ (128 - w) * 2 ^ w = ap (λ n. 2 ^ n) (sym e) ∙ pow-add 2 (128 - w) w in
    let all : (2 ^ (128 - w) - 1) * 2 ^ w + 2 ^ w ≡ 2 ^ (128 - w) * 2 ^ w = one_less (2 ^ (128 - w)) (2 ^ w) (pow_pos (128 - w)) in
    let split : a + (2 ^ 128 - b) ≡ a + (2 ^ w - b) + (2 ^ (128 - w) - 1) * 2 ^ w = omega arith in
    ap (λ n. n % 2 ^ w) split ∙ add-mul-mod_self_right (a + (2 ^ w - b)) (2 ^ (128 - w) - 1) (2 ^ w)

-- a difference without negative numbers
pub difference_is : (w a b : ℕ) → b ≤ 2 ^ w → difference_of w a b ≡ (a + (2 ^ w - b)) % 2 ^ w
unfolding difference_of wrapped
difference_is w a b h =
    let one : 1 * 2 ^ w ≡ 2 ^ w = omega arith in
    let up : pos a -ℤ pos b +ℤ pos (1 * 2 ^ w) ≡ pos (a + (2 ^ w - b)) = rw one (omega (arith, ints)) in
    ap unsigned_abs (int_rem_euclid_is (pos a -ℤ pos b) (pos (2 ^ w)) (2 ^ w) 1 (a + (2 ^ w - b)) (pow_pos w) refl up)

-- half the number of values of a width fits an i128
pub half_le : (w : ℕ) → w ≤ 128 → 2 ^ (w - 1) ≤ 2 ^ 127
half_le w h = pow-le-pow_right {n = 2} (lit< tt) {i = w - 1} {j = 127} (omega arith)
