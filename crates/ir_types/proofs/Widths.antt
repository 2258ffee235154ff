-- Bits and numbers of 1 to 128 bits, as machine integers.
use Rattle.std.proofs.Common.{◌≡◌, ℕ, zero, suc, to_z, of_z, lit<, ◌+◌, ◌-◌, ◌*◌, ◌/◌, ◌%◌, ◌^◌, ◌<◌, ◌≤◌, ℤ, pos, negsuc, ◌-ℤ◌, ◌≤ℤ◌, ◌<ℤ◌, sym, ap, refl, ◌∙◌, arith, true}
use Rattle.std.specs.Prelude.{bit_and, unsigned_abs}
use Rattle.std.proofs.lemmas.Nat.{and_mask, pow_pos}
use Rattle.std.proofs.lemmas.Nat.Bits.{ones_shr}
use Rattle.std.proofs.lemmas.Int.{ints, to_z_pos, to_z-of_z}
use mir.Val.{SFits}
use Rattle.std.specs.Int.{w128}
use Rattle.std.proofs.lemmas.Bool.Decides.{nat_tests}
use Rattle.std.proofs.Math.Nat.{mod-eq_of_lt, pow-suc, pow-le-pow_right}
use Rattle.ir_types.specs.Limits.{most_width}
use Rattle.ir_types.specs.Readings.{signed_of, wrapped, literal_number}

pub halves : (w : ℕ) → 1 ≤ w → 2 ^ w ≡ 2 ^ (w - 1) + 2 ^ (w - 1)
halves w h =
    let e : suc (w - 1) ≡ w = omega arith in
    let two : 2 ^ suc (w - 1) ≡ 2 ^ (w - 1) * 2 = pow-suc 2 (w - 1) in
    ap (λ n. 2 ^ n) (sym e) ∙ two ∙ omega arith

-- the mask of w bits
pub ones_at : (w : ℕ) → w ≤ most_width → (2 ^ 128 - 1) / 2 ^ (128 - w) ≡ 2 ^ w - 1
ones_at w h =
    let e : 128 - (128 - w) ≡ w = omega arith in
    ones_shr 128 (128 - w) (omega arith) ∙ ap (λ k. 2 ^ k - 1) e

half_mask : (w : ℕ) → 1 ≤ w → (2 ^ w - 1) / 2 ≡ 2 ^ (w - 1) - 1
half_mask w h = ones_shr w 1 h

-- half the number of values of a width fits an i128
half_le : (w : ℕ) → w ≤ most_width → 2 ^ (w - 1) ≤ 2 ^ 127
half_le w h = pow-le-pow_right {n = 2} (lit< tt) {i = w - 1} {j = 127} (omega arith)

pub signed_low : (w v : ℕ) → v < 2 ^ (w - 1) → signed_of w v ≡ pos v
unfolding signed_of
signed_low w v h = grind (arith, nat_tests)

pub signed_high : (w v : ℕ) → 2 ^ (w - 1) ≤ v → signed_of w v ≡ pos v -ℤ pos (2 ^ w)
unfolding signed_of
signed_high w v h = grind (arith, nat_tests)

pub high_is : (w v : ℕ) → 2 ^ (w - 1) ≤ v → v < 2 ^ w → signed_of w v ≡ negsuc (2 ^ w - 1 - v)
high_is w v h k = signed_high w v h ∙ omega (arith, ints)

-- the represented number, as an i128
pub reads_low : (w v : ℕ) → 1 ≤ w → w ≤ most_width → v ≤ (2 ^ w - 1) / 2 → to_z w128 v ≡ signed_of w v
reads_low w v some few k =
    let half = half_mask w some in
    let top = half_le w few in
    let more = pow_pos (w - 1) in
    let e : signed_of w v ≡ pos v = signed_low w v (omega arith) in
    to_z_pos w128 v (omega arith) ∙ sym e

pub reads_high : (w v : ℕ) → 1 ≤ w → w ≤ most_width → (2 ^ w - 1) / 2 < v → v < 2 ^ w → to_z w128 (of_z w128 (negsuc 0 -ℤ to_z w128 (2 ^ w - 1 - v))) ≡ signed_of w v
reads_high w v some few k l =
    let half = half_mask w some in
    let top = half_le w few in
    let more = pow_pos (w - 1) in
    let two = halves w some in
    let e : signed_of w v ≡ negsuc (2 ^ w - 1 - v) = high_is w v (omega arith) l in
    let f : to_z w128 (2 ^ w - 1 - v) ≡ pos (2 ^ w - 1 - v) = to_z_pos w128 _ (omega arith) in
    rw (f, e) (omega (arith, ints))

-- the bits of an i128
pub cut_low : (w : ℕ) (z : ℤ) → SFits w128 z → pos 0 ≤ℤ z → bit_and (unsigned_abs (to_z w128 (of_z w128 z))) (2 ^ w - 1) ≡ wrapped w z
unfolding wrapped
cut_low w (pos n) fits low = rw (to_z-of_z w128 (pos n) fits) (and_mask n w)
cut_low w (negsuc n) fits low = absurd (omega (arith, ints))

pub cut_high : (w : ℕ) (z : ℤ) → SFits w128 z → z <ℤ pos 0 → 2 ^ w - 1 - bit_and (unsigned_abs (to_z w128 (of_z w128 (negsuc 0 -ℤ to_z w128 (of_z w128 z))))) (2 ^ w - 1) ≡ wrapped w z
unfolding wrapped
cut_high w (pos n) fits low = absurd (omega (arith, ints))
cut_high w (negsuc n) fits low =
    let e : negsuc 0 -ℤ to_z w128 (of_z w128 (negsuc n)) ≡ pos n = omega (arith, ints) in
    let f : SFits w128 (pos n) = record { sfits = fits.sfits } in
    rw (e, to_z-of_z w128 (pos n) f, and_mask n w) refl

-- the bits of a literal
pub literal_low : (w m : ℕ) → m < 2 ^ w → m ≡ wrapped w (pos m)
unfolding wrapped
literal_low w m h = sym (mod-eq_of_lt h)

pub literal_high : (w m : ℕ) → 0 < m → m < 2 ^ w → 2 ^ w - 1 - (m - 1) ≡ wrapped w (literal_number true m)
unfolding wrapped
literal_high w zero h k = absurd (omega arith)
literal_high w (suc m) h k =
    let same : m % 2 ^ w ≡ m = mod-eq_of_lt (omega arith) in
    let is : literal_number true (suc m) ≡ negsuc m = omega (arith, ints) in
    rw (is, same) (omega arith)

pub literal_zero : (w : ℕ) → 0 ≡ wrapped w (literal_number true 0)
unfolding wrapped
literal_zero w = sym (mod-eq_of_lt (pow_pos w))

-- the represented number, for bits beyond the width
pub past_is : (w v : ℕ) → 1 ≤ w → 2 ^ w ≤ v → signed_of w v ≡ pos (v - 2 ^ w)
past_is w v some h = let two = halves w some in signed_high w v (omega arith) ∙ omega (arith, ints)
