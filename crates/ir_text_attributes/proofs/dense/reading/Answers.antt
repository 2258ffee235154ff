use mir.Val.{SFits}
use Rattle.std.specs.Int.{w64, w128}
use Rattle.std.proofs.Common.{◌≡◌, ℕ, suc, ◌-◌, ◌^◌, ◌<◌, ◌≤◌, true, ℤ, pos, negsuc, arith}
use Rattle.std.proofs.lemmas.Int.{to_z-of_z}
use Rattle.std.proofs.lemmas.Bool.Decides.{nat_tests}
use Rattle.std.proofs.Math.Nat.{pow-le-pow_right}
use Rattle.ir_types.specs.Ranges.{is_signed_number}
use Rattle.ir_types.proofs.ReadingLaws.{signed_fits, neg_signed, pos_signed}
use Rattle.ir_text_attributes.proofs.dense.reading.Goals as goal

half_most : (w : ℕ) → w ≤ 64 → 2 ^ (w - 1) ≤ 2 ^ 63
half_most w h = pow-le-pow_right {n = 2} (omega arith) {i = w - 1} {j = 63} (omega arith)

-- a signed number of at most 64 bits
narrow : (w : ℕ) (z : ℤ) → w ≤ 64 → is_signed_number w z ≡ true → SFits w64 z
narrow w (pos n) few h = record { sfits = omega (arith, half_most w few, pos_signed w n h) }
narrow w (negsuc n) few h = record { sfits = omega (arith, half_most w few, neg_signed w n h) }

wide : (w : ℕ) (z : ℤ) → w ≤ 64 → is_signed_number w z ≡ true → SFits w128 z
wide w (pos n) few h = record { sfits = omega (arith, half_most w few, pos_signed w n h) }
wide w (negsuc n) few h = record { sfits = omega (arith, half_most w few, neg_signed w n h) }

pub overflow_cast-result : goal.overflow_cast-result
overflow_cast-result c =
    let w = c.bits_of.result in
    let z = c.signed_number.result in
    let fits : is_signed_number w z ≡ true = rw c.signed_number.ensures (signed_fits w c.args.bits c.bits_of.ensures.low (rw (← c.bits_of.ensures.bits) at c.requires)) in
    rw (to_z-of_z w128 z (wide w z c.bits_of.ensures.high fits)) (narrow w z c.bits_of.ensures.high fits)

pub returns : goal.returns
returns c =
    let w = c.bits_of.result in
    let z = c.signed_number.result in
    let fits : is_signed_number w z ≡ true = rw c.signed_number.ensures (signed_fits w c.args.bits c.bits_of.ensures.low (rw (← c.bits_of.ensures.bits) at c.requires)) in
    rw (to_z-of_z w128 z (wide w z c.bits_of.ensures.high fits), to_z-of_z w64 z (narrow w z c.bits_of.ensures.high fits)) (rw c.bits_of.ensures.bits at c.signed_number.ensures)
