-- Powers of 2 at widths.
use Rattle.std.proofs.Common.{◌≡◌, ℕ, ◌+◌, ◌-◌, ◌*◌, ◌/◌, ◌%◌, ◌^◌, ◌<◌, ◌≤◌, max, List, length, get_or, nat_lt, Bool, true, if◌then◌else◌, ap, arith, refl, sym}
use Rattle.std.proofs.Math.Nat.{div-eq_of_lt, mod-eq_of_lt}
use Rattle.std.proofs.Math.Pow.{pow_mono}
use Rattle.std.proofs.lemmas.Bool.Decides.{nat_tests}
use Rattle.ir_types.specs.Reasons.{is_width}
use Rattle.ir_types.proofs.Widths.{halves}
use Rattle.user_patterns_widths.specs.SampledWidths.{level_width}
use Rattle.user_patterns_widths.specs.SampledValues.{chance, chosen, edge, edge_count, value_at, value_of_case}

-- a level with no bit left
pub far_level : (w level : ℕ) → w < 4294967296 → 32 ≤ level → 1 ≡ level_width w level
far_level w level small far =
    let more : 2 ^ 32 ≤ 2 ^ level = pow_mono {i = 32} {j = level} far in
    let none : w / 2 ^ level ≡ 0 = div-eq_of_lt (omega (arith, more)) in
    sym (ap (max 1) none)

-- from one bit on there are two values
pub has_two : (w : ℕ) → 1 ≤ w → 2 ≤ 2 ^ w
has_two w l = pow_mono {i = 1} {j = w} l

pub has_four : (w : ℕ) → 2 ≤ w → 4 ≤ 2 ^ w
has_four w l = pow_mono {i = 2} {j = w} l

pub two_stays : (w : ℕ) → 2 ≤ w → 2 ≡ 2 % 2 ^ w
two_stays w l = sym (mod-eq_of_lt (omega (arith, has_four w l)))

pub above_half_stays : (w : ℕ) → 2 ≤ w → 2 ^ (w - 1) + 1 ≡ (2 ^ (w - 1) + 1) % 2 ^ w
above_half_stays w l =
    let two : 2 ≤ 2 ^ (w - 1) = has_two (w - 1) (omega (arith, l)) in
    let all : 2 ^ w ≡ 2 ^ (w - 1) + 2 ^ (w - 1) = halves w (omega (arith, l)) in
    sym (mod-eq_of_lt (omega (arith, two, all)))

-- a width that has values
chosen_width : (b : Bool) (x : ℕ) → b ≡ true → x ≡ (if b then x else 0)
chosen_width b x e = rw e refl

pub tried_at : (near : List ℕ) (w case j : ℕ) → 1 ≤ w → w ≤ 128 → value_at near w case j ≡ value_of_case near w case j
tried_at near w case j low high =
    let some : is_width w ≡ true = grind arith in
    chosen_width (is_width w) (value_at near w case j) some

-- a number near a literal, where there are more of these
picked : (b : Bool) (x y : ℕ) → b ≡ true → x ≡ (if b then x else y)
picked b x y e = rw e refl

pub chosen_near : (near : List ℕ) (w case j number : ℕ) → number < length near → get_or near number 0 % 2 ^ w ≡ chosen near w case j number
chosen_near near w case j number l =
    let t : nat_lt number (length near) ≡ true = grind (arith, nat_tests) in
    picked (nat_lt number (length near)) (get_or near number 0 % 2 ^ w)
    (if nat_lt (number - length near) edge_count then edge w (number - length near) else chance w (16 * case + j)) t
