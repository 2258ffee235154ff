-- Numbers of fewer bits, by masks.
use Rattle.std.proofs.Common.{◌≡◌, ◌∙◌, ℕ, suc, ◌+◌, ◌-◌, ◌*◌, ◌%◌, ◌^◌, ◌<◌, ◌≤◌, not, ◌⊎◌, inl, inr, ⊎_elim, Bool, true, false, nat_lt, nat_le, if◌then◌else◌, bit_and, bit_or, bit_xor, pos, negsuc, ◌-ℤ◌, refl, sym, ap, subst, arith}
use Rattle.std.specs.Prelude.{int_lt}
use Rattle.std.proofs.lemmas.Bool.Decides.{nat_tests}
use Rattle.std.proofs.lemmas.Int.{ints}
use Rattle.std.proofs.lemmas.Nat.{and_comm, and_mask, mod-mul-add, or_disjoint, pow-add, pow_pos}
use Rattle.std.specs.Int.Bits.{xor_add_and}
use Rattle.std.proofs.lemmas.Nat.Bits.{and_high_mask}
use Rattle.std.proofs.Math.Nat.{add-mod, add-mul-mod_self_right, div-eq_of_lt, mod-eq_of_lt, mod_self, mul-add}
use Rattle.std.proofs.Math.Pow.{mod-mod-pow, pow-lt}
use Rattle.ir_types.specs.Readings.{signed_of, wrapped}
use Rattle.ir_types.proofs.ReadingLaws.{unsigned_back}
use Rattle.ir_types.proofs.Widths.{halves, literal_high}
use Rattle.dialects_int.specs.Arithmetic.{comparison_of, difference_of, product_of, sign_extended, sum_of, zero_extended}
use Rattle.dialects_int.proofs.Widths.{difference_is}
use Rattle.dialects_int.proofs.Quotients.{signed_cases}
use Rattle.width_claims.proofs.Cutting.{cut_wrapped}
use Rattle.width_claims.specs.Masks.{AreMasks, MasksCut, MasksDifference, MasksExtension, MasksLess, MasksLiteral, MasksNarrower, MasksNegative, MasksPower, MasksProduct, MasksResize, MasksSum, MasksZeros, differ, mask, sign}

-- modulo 2^W is modulo 2^w
pub shorter : (n W w : ℕ) → w ≤ W → n % 2 ^ W % 2 ^ w ≡ n % 2 ^ w
shorter n W w h =
    let e : (W - w) + w ≡ W = omega (arith, h) in
    subst (λ (v : ℕ). n % 2 ^ v % 2 ^ w ≡ n % 2 ^ w) e (mod-mod-pow n (W - w) w)

pub grows : (v w : ℕ) → v ≤ w → 2 ^ v ≤ 2 ^ w
grows v w h = ⊎_elim (λ (l : v < w). let p = pow-lt l in omega (arith, p)) (λ (e : v ≡ w). let p = ap (λ n. 2 ^ n) e in omega (arith, p)) (either v w h)
  where
    either : (a b : ℕ) → a ≤ b → (a < b) ⊎ (a ≡ b)
    either a b l = grind arith

-- 2^W as a multiple of 2^w
multiple : (W w : ℕ) → w ≤ W → (j : ℕ) × (2 ^ W ≡ j * 2 ^ w + 2 ^ w)
multiple W w h =
    let e : (W - w) + w ≡ W = omega (arith, h) in
    let whole : 2 ^ W ≡ 2 ^ (W - w) * 2 ^ w = ap (λ n. 2 ^ n) (sym e) ∙ pow-add 2 (W - w) w in
    let some = pow_pos (W - w) in
    let one : 2 ^ (W - w) ≡ (2 ^ (W - w) - 1) + 1 = omega (arith, some) in
    let times = ap (λ c. c * 2 ^ w) one in
    (2 ^ (W - w) - 1, omega (arith, whole, times))

pub masks_sum : MasksSum
unfolding sum_of
masks_sum W w a b h = and_mask ((a + b) % 2 ^ W) w ∙ shorter (a + b) W w h

pub masks_difference : MasksDifference
masks_difference W w a b h l =
    let m = multiple W w h in
    let whole = m.1 in
    let split : a + (2 ^ W - b) ≡ a + (2 ^ w - b) + m.0 * 2 ^ w = omega (arith, whole, l) in
    and_mask ((a + (2 ^ W - b)) % 2 ^ W) w ∙ shorter (a + (2 ^ W - b)) W w h ∙ ap (λ n. n % 2 ^ w) split
    ∙ add-mul-mod_self_right (a + (2 ^ w - b)) m.0 (2 ^ w) ∙ sym (difference_is w a b l)

pub masks_literal : MasksLiteral
unfolding wrapped
masks_literal W w n h = and_mask (n % 2 ^ W) w ∙ shorter n W w h

pub masks_negative : MasksNegative
unfolding difference_of
masks_negative W w n h l =
    let g = grows w W h in
    let small : n < 2 ^ W = omega (arith, g, l) in
    ap (λ k. bit_and ((0 + (2 ^ W - k)) % 2 ^ W) (mask w)) (mod-eq_of_lt small) ∙ masks_difference W w 0 n h (omega (arith, l))

pub masks_product : MasksProduct
unfolding product_of sum_of
masks_product W w a c d h = masks_sum W w (product_of w a c) (product_of w a d) h ∙ sym (add-mod (a * c) (a * d) (2 ^ w)) ∙ ap (λ n. n % 2 ^ w) (sym (mul-add a c d))

pub masks_zeros : MasksZeros
unfolding zero_extended
masks_zeros v w a h l = let g = grows v w h in sym (mod-eq_of_lt (omega (arith, g, l)))

pub masks_cut : MasksCut
masks_cut w a = and_mask a w

-- ---- signs

left : (W w a : ℕ) → w ≤ W → a < 2 ^ w → (mask w + (2 ^ W - a)) % 2 ^ W ≡ mask w - a
left W w a h l =
    let g = grows w W h in
    let e : mask w + (2 ^ W - a) ≡ (mask w - a) + 1 * 2 ^ W = omega (arith, g, l) in
    ap (λ n. n % 2 ^ W) e ∙ add-mul-mod_self_right (mask w - a) 1 (2 ^ W) ∙ mod-eq_of_lt (omega (arith, g, l))

pub sign_is : (W w a : ℕ) → 1 ≤ w → w ≤ W → a < 2 ^ w → sign W (mask w) a ≡ nat_le (2 ^ (w - 1)) a
sign_is W w a some h l =
    let two = halves w some in
    ap (λ n. nat_lt n a) (left W w a h l) ∙ same (2 ^ w) (2 ^ (w - 1)) a two (pow_pos (w - 1)) l
  where
    same : (m k n : ℕ) → m ≡ k + k → 0 < k → n < m → nat_lt (m - 1 - n) n ≡ nat_le k n
    same m k n e p l = grind (arith, nat_tests)

low_le : (h a : ℕ) → a < h → nat_le h a ≡ false
low_le h a k = grind (arith, nat_tests)

high_le : (h a : ℕ) → h ≤ a → nat_le h a ≡ true
high_le h a k = grind (arith, nat_tests)

positive : (a b : ℕ) → int_lt (pos a) (pos b) ≡ nat_lt a b
positive a b = refl

above_none : (a m : ℕ) → int_lt (pos a) (negsuc m) ≡ false
above_none a m = refl

below_all : (m b : ℕ) → int_lt (negsuc m) (pos b) ≡ true
below_all m b = refl

negative : (m a b : ℕ) → a < m → b < m → int_lt (negsuc (m - 1 - a)) (negsuc (m - 1 - b)) ≡ nat_lt a b
negative m a b l h = turned (m - 1 - a) (m - 1 - b) a b (omega (arith, l, h))
  where
    turned : (x y c d : ℕ) → x + c ≡ y + d → int_lt (negsuc x) (negsuc y) ≡ nat_lt c d
    turned x y c d e = grind (arith, nat_tests)

minus_is : (m n : ℕ) → m ≡ suc n → pos 0 -ℤ pos m ≡ negsuc n
minus_is m n e = omega (arith, ints, e)

abbrev by_signs : Bool → Bool → Bool → Bool
by_signs s t l = differ (differ s t) l

alike_low : (l : Bool) → by_signs false false l ≡ l
alike_low true = refl
alike_low false = refl

alike_high : (l : Bool) → by_signs true true l ≡ l
alike_high true = refl
alike_high false = refl

greater : (l : Bool) → l ≡ true → by_signs false true l ≡ false
greater l e = ap not e

smaller : (l : Bool) → l ≡ false → by_signs true false l ≡ true
smaller l e = ap not e

surely : (a b h : ℕ) → a < h → h ≤ b → nat_lt a b ≡ true
surely a b h l m = grind (arith, nat_tests)

surely_not : (a b h : ℕ) → h ≤ a → b < h → nat_lt a b ≡ false
surely_not a b h l m = grind (arith, nat_tests)

pub masks_less : MasksLess
unfolding comparison_of
masks_less W w a b some h la lb =
    (λ i. by_signs (sign_is W w a some h la i) (sign_is W w b some h lb i) (nat_lt a b)) ∙ go (signed_cases w a la) (signed_cases w b lb)
  where
    go : ((a < 2 ^ (w - 1)) × (signed_of w a ≡ pos a)) ⊎ ((2 ^ (w - 1) ≤ a) × (signed_of w a ≡ negsuc (2 ^ w - 1 - a)))
        → ((b < 2 ^ (w - 1)) × (signed_of w b ≡ pos b)) ⊎ ((2 ^ (w - 1) ≤ b) × (signed_of w b ≡ negsuc (2 ^ w - 1 - b)))
        → by_signs (nat_le (2 ^ (w - 1)) a) (nat_le (2 ^ (w - 1)) b) (nat_lt a b) ≡ int_lt (signed_of w a) (signed_of w b)
    go (inl x) (inl y) =
        (λ i. by_signs (low_le (2 ^ (w - 1)) a x.0 i) (low_le (2 ^ (w - 1)) b y.0 i) (nat_lt a b)) ∙ alike_low (nat_lt a b) ∙ sym (positive a b) ∙ sym (λ i. int_lt (x.1 i) (y.1 i))
    go (inl x) (inr y) =
        (λ i. by_signs (low_le (2 ^ (w - 1)) a x.0 i) (high_le (2 ^ (w - 1)) b y.0 i) (nat_lt a b)) ∙ greater (nat_lt a b) (surely a b (2 ^ (w - 1)) x.0 y.0) ∙ sym (above_none a (2 ^ w - 1 - b)) ∙ sym (λ i. int_lt (x.1 i) (y.1 i))
    go (inr x) (inl y) =
        (λ i. by_signs (high_le (2 ^ (w - 1)) a x.0 i) (low_le (2 ^ (w - 1)) b y.0 i) (nat_lt a b)) ∙ smaller (nat_lt a b) (surely_not a b (2 ^ (w - 1)) x.0 y.0) ∙ sym (below_all (2 ^ w - 1 - a) b) ∙ sym (λ i. int_lt (x.1 i) (y.1 i))
    go (inr x) (inr y) =
        (λ i. by_signs (high_le (2 ^ (w - 1)) a x.0 i) (high_le (2 ^ (w - 1)) b y.0 i) (nat_lt a b)) ∙ alike_high (nat_lt a b) ∙ sym (negative (2 ^ w) a b la lb) ∙ sym (λ i. int_lt (x.1 i) (y.1 i))

-- ---- extensions

ones_low : (w v : ℕ) → v ≤ w → mask w % 2 ^ v ≡ mask v
ones_low w v h =
    let m = multiple w v h in
    let whole = m.1 in
    let some = pow_pos v in
    let e : mask w ≡ m.0 * 2 ^ v + (2 ^ v - 1) = omega (arith, whole, some) in
    ap (λ n. n % 2 ^ v) e ∙ mod-mul-add m.0 (2 ^ v) (2 ^ v - 1) (omega (arith, some))

upper : (w v : ℕ) → v ≤ w → bit_xor (mask w) (mask v) ≡ 2 ^ w - 2 ^ v
upper w v h =
    let x = xor_add_and (mask w) (mask v) in
    let both = and_mask (mask w) v ∙ ones_low w v h in
    let some = pow_pos v in
    let g = grows v w h in
    omega (arith, x, both, some, g)

pub masks_extension : MasksExtension
unfolding sign_extended
masks_extension W v w a some h wide l =
    ap (λ b. if b then bit_or a (bit_xor (mask w) (mask v)) else a) (sign_is W v a some wide l) ∙ go (signed_cases v a l)
  where
    go : ((a < 2 ^ (v - 1)) × (signed_of v a ≡ pos a)) ⊎ ((2 ^ (v - 1) ≤ a) × (signed_of v a ≡ negsuc (2 ^ v - 1 - a)))
        → (if nat_le (2 ^ (v - 1)) a then bit_or a (bit_xor (mask w) (mask v)) else a) ≡ wrapped w (signed_of v a)
    go (inl x) =
        let g = grows v w h in
        ap (λ b. if b then bit_or a (bit_xor (mask w) (mask v)) else a) (low_le (2 ^ (v - 1)) a x.0) ∙ sym (unsigned_back w a (omega (arith, g, l))) ∙ ap (wrapped w) (sym x.1)
    go (inr x) =
        let g = grows v w h in
        let half = pow_pos (v - 1) in
        let k = x.0 in
        let apart : bit_and a (2 ^ w - 2 ^ v) ≡ 0 = and_high_mask w v h a (omega (arith, g, l)) ∙ ap (λ n. n * 2 ^ v) (div-eq_of_lt l) ∙ none (2 ^ v) in
        let value : a + (2 ^ w - 2 ^ v) ≡ 2 ^ w - 1 - ((2 ^ v - a) - 1) = omega (arith, g, l, half, k) in
        ap (λ b. if b then bit_or a (bit_xor (mask w) (mask v)) else a) (high_le (2 ^ (v - 1)) a x.0) ∙ ap (bit_or a) (upper w v h) ∙ or_disjoint a (2 ^ w - 2 ^ v) apart ∙ value
        ∙ literal_high w (2 ^ v - a) (omega (arith, l)) (omega (arith, g, l, half, k)) ∙ ap (wrapped w) (minus_is (2 ^ v - a) (2 ^ v - 1 - a) (omega (arith, l)) ∙ sym x.1)
      where
        none : (n : ℕ) → 0 * n ≡ 0
        none n = omega arith

resized_cut : (W v w a : ℕ) → w ≤ W → sign_extended v W a % 2 ^ w ≡ sign_extended v w a
unfolding sign_extended
resized_cut W v w a h = cut_wrapped w W (signed_of v a) h

pub masks_resize : MasksResize
masks_resize W v w a some wide h l =
    and_mask (if sign W (mask v) a then bit_or a (bit_xor (mask W) (mask v)) else a) w
    ∙ ap (λ n. n % 2 ^ w) (masks_extension W v W a some wide wide l) ∙ resized_cut W v w a h

-- ---- masks

pub are_masks : AreMasks
are_masks W w some h =
    let p = pow_pos w in
    let g = grows w W h in
    let e : mask w + 1 ≡ 2 ^ w = omega (arith, p) in
    record {
      low = omega (arith, g, p);
      ones = ap (λ n. bit_and (mask w) (n % 2 ^ W)) e ∙ and_comm (mask w) (2 ^ w % 2 ^ W) ∙ and_mask (2 ^ w % 2 ^ W) w ∙ shorter (2 ^ w) W w h ∙ mod_self (2 ^ w);
      some = and_mask (mask w) 1 ∙ ones_low w 1 some;
    }

pub masks_narrower : MasksNarrower
masks_narrower v w h = let g = pow-lt h in let p = pow_pos v in less (2 ^ v) (2 ^ w) g p
  where
    less : (m n : ℕ) → m < n → 0 < m → nat_lt (m - 1) (n - 1) ≡ true
    less m n l p = grind (arith, nat_tests)

pub masks_power : MasksPower
masks_power W k h =
    let p = pow_pos k in
    let g = pow-lt h in
    let e : 2 ^ k + (2 ^ W - 1) ≡ (2 ^ k - 1) + 1 * 2 ^ W = omega (arith, p, g) in
    let down : (2 ^ k + (2 ^ W - 1)) % 2 ^ W ≡ 2 ^ k - 1 = ap (λ n. n % 2 ^ W) e ∙ add-mul-mod_self_right (2 ^ k - 1) 1 (2 ^ W) ∙ mod-eq_of_lt (omega (arith, g)) in
    ap (bit_and (2 ^ k)) down ∙ and_mask (2 ^ k) k ∙ mod_self (2 ^ k)
