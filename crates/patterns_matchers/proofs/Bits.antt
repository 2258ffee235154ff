-- Bits of constants that rules make.
use Rattle.std.proofs.Common.{◌≡◌, ℕ, ◌+◌, ◌-◌, ◌*◌, ◌%◌, ◌^◌, ◌<◌, ◌≤◌, lit<, pos, ◌-ℤ◌, ◌+ℤ◌, sym, ap, refl, ◌∙◌, arith}
use Rattle.std.specs.Prelude.{unsigned_abs}
use Rattle.std.proofs.lemmas.Nat.{pow_pos, pow-add, mod_below}
use Rattle.std.proofs.lemmas.Int.{ints, int_rem_euclid_is}
use Rattle.ir_event.specs.types.Readings.{wrapped}
use Rattle.dialects_int.specs.Arithmetic.{difference_of}

-- 0 minus a number, in a width of at most 128 bits
pub negated_is : (w c : ℕ) → w ≤ 128 → c ≤ 2 ^ 128 → difference_of w 0 c ≡ (2 ^ 128 - c) % 2 ^ w
unfolding difference_of wrapped
negated_is w c h k =
    let e : 128 - w + w ≡ 128 = omega arith in
    let whole : 2 ^ 128 ≡ 2 ^ (128 - w) * 2 ^ w = ap (λ n. 2 ^ n) (sym e) ∙ pow-add 2 (128 - w) w in
    let up : pos 0 -ℤ pos c +ℤ pos (2 ^ (128 - w) * 2 ^ w) ≡ pos (2 ^ 128 - c) = rw (sym whole) (omega (arith, ints)) in
    ap unsigned_abs (int_rem_euclid_is (pos 0 -ℤ pos c) (pos (2 ^ w)) (2 ^ w) (2 ^ (128 - w)) (2 ^ 128 - c) (pow_pos w) refl up)

-- 0 minus a number, in width 0
pub no_width : (c : ℕ) → c ≤ 2 ^ 128 → 0 ≡ difference_of 0 0 c
no_width c k = let below : (2 ^ 128 - c) % 1 < 1 = mod_below (2 ^ 128 - c) 1 (lit< tt) in let none : 0 ≡ (2 ^ 128 - c) % 1 = omega (arith, below) in none ∙ sym (negated_is 0 c (omega arith) k)
