-- Theorems about casts, comparisons, and operations expressed by others.
use Rattle.std.proofs.Common.{◌≡◌, ℕ, zero, suc, lit<, ◌+◌, ◌-◌, ◌*◌, ◌/◌, ◌%◌, ◌^◌, ◌<◌, ◌≤◌, ℤ, pos, negsuc, sym, ap, refl, ◌∙◌, ⊎_elim, arith, Bool, true, false, Some, None}
use Rattle.std.specs.Prelude.{◌==◌, bit_xor, nat_lt, int_lt, int_le, if◌then◌else◌}
use Rattle.std.proofs.lemmas.Nat.{mod_below, pow_pos, pow-add, xor_block}
use Rattle.std.proofs.lemmas.Int.{ints}
use Rattle.std.proofs.lemmas.Bool.{cases_lt}
use Rattle.std.proofs.lemmas.Bool.Decides.{nat_tests}
use Rattle.std.proofs.Math.Pow.{mod-mod-pow}
use Rattle.std.proofs.Math.Nat.{mod-eq_of_lt, add-mod-mod, add-mod_left, add-mul-mod_self_right, pow-suc, pow-le-pow_right, mul-le-mul_right}
use Rattle.std.proofs.lemmas.Nat.{div-add-mod'}
use Rattle.ir_types.specs.Readings.{signed_of, wrapped}
use Rattle.dialects_int.specs.declared.operations.Predicate.{Predicate}
use Rattle.dialects_int.specs.declared.operations.Predicate.TheVariants as asks
use Rattle.dialects_int.specs.Arithmetic.{sum_of, difference_of, product_of, all_ones, quotient_of, remainder_of, comparison_of, signed_maximum_of, maximum_of, signed_minimum_of, minimum_of, sign_extended, zero_extended, truncated, truth, choice_of}
use Rattle.dialects_int.specs.Laws.{mirrored, holds_of_itself}
use Rattle.ir_types.proofs.Widths.{halves, signed_low, high_is}
use Rattle.dialects_int.proofs.Widths.{difference_is}
use Rattle.ir_types.proofs.ReadingLaws.{signed_back, bits_back}
use Rattle.ir_types.specs.Ranges.{is_signed_number}
use Rattle.dialects_int.proofs.PairLaws.{reading_apart, picked, picked_number}

grows : (u v : ℕ) → u ≤ v → 2 ^ u ≤ 2 ^ v
grows u v h = pow-le-pow_right {n = 2} (lit< tt) {i = u} {j = v} h

-- the signed value of u bits is a signed value of v bits
reading_kept : (u v a : ℕ) → 1 ≤ u → u ≤ v → a < 2 ^ u → signed_of v (wrapped v (signed_of u a)) ≡ signed_of u a
reading_kept u v a some h k = signed_back v (signed_of u a) (omega arith) (⊎_elim
    (λ (l : a < 2 ^ (u - 1)). rw (signed_low u a l) (low a (omega (arith, grows (u - 1) (v - 1) (omega arith)))))
    (λ (l : 2 ^ (u - 1) ≤ a). rw (high_is u a l k) (high (2 ^ u - 1 - a) (omega (arith, grows (u - 1) (v - 1) (omega arith), halves u some))))
    (cases_lt a (2 ^ (u - 1))))
  where
    low : (n : ℕ) → n < 2 ^ (v - 1) → is_signed_number v (pos n) ≡ true
    low n l = grind (arith, nat_tests)

    high : (n : ℕ) → suc n ≤ 2 ^ (v - 1) → is_signed_number v (negsuc n) ≡ true
    high n l = grind (arith, nat_tests)

pub extended_twice : (u v w a : ℕ) → 1 ≤ u → u ≤ v → a < 2 ^ u → sign_extended v w (sign_extended u v a) ≡ sign_extended u w a
unfolding sign_extended
extended_twice u v w a some h k = ap (wrapped w) (reading_kept u v a some h k)

pub extended_to_itself : (u a : ℕ) → 1 ≤ u → a < 2 ^ u → sign_extended u u a ≡ a
unfolding sign_extended
extended_to_itself u a some k = bits_back u a some k

pub zeros_twice : (u v w a : ℕ) → u ≤ v → a < 2 ^ u → zero_extended w (zero_extended v a) ≡ zero_extended w a
unfolding zero_extended
zeros_twice u v w a h k = ap (λ n. n % 2 ^ w) (mod-eq_of_lt (omega (arith, grows u v h)))

pub zeros_to_itself : (u a : ℕ) → a < 2 ^ u → zero_extended u a ≡ a
unfolding zero_extended
zeros_to_itself u a k = mod-eq_of_lt k

pub sign_of_zeros : (u v w a : ℕ) → u < v → a < 2 ^ u → sign_extended v w (zero_extended v a) ≡ zero_extended w a
unfolding sign_extended zero_extended wrapped
sign_of_zeros u v w a h k =
    let small : a < 2 ^ (v - 1) = omega (arith, grows u (v - 1) (omega arith)) in
    let same : a % 2 ^ v ≡ a = mod-eq_of_lt (omega (arith, grows u v (omega arith))) in
    rw (same, signed_low v a small) refl

pub cut_twice : (v w a : ℕ) → w ≤ v → a % 2 ^ v % 2 ^ w ≡ a % 2 ^ w
cut_twice v w a h =
    let e : v - w + w ≡ v = omega arith in
    ap (λ k. a % 2 ^ k % 2 ^ w) (sym e) ∙ mod-mod-pow a (v - w) w

-- truncating a number takes it modulo a power of 2
cut_high : (n v w : ℕ) → w ≤ v → (2 ^ v - 1 - n % 2 ^ v) % 2 ^ w ≡ 2 ^ w - 1 - n % 2 ^ w
cut_high n v w h =
    let e : v - w + w ≡ v = omega arith in
    let whole : 2 ^ v ≡ 2 ^ (v - w) * 2 ^ w = ap (λ k. 2 ^ k) (sym e) ∙ pow-add 2 (v - w) w in
    let low : n % 2 ^ v % 2 ^ w ≡ n % 2 ^ w = cut_twice v w n h in
    let parts : n % 2 ^ v / 2 ^ w * 2 ^ w + n % 2 ^ v % 2 ^ w ≡ n % 2 ^ v = div-add-mod' (n % 2 ^ v) (2 ^ w) in
    by (2 ^ (v - w)) (n % 2 ^ v / 2 ^ w) (n % 2 ^ w) (2 ^ w) (n % 2 ^ v) (2 ^ v) whole (sym parts ∙ ap (λ r. n % 2 ^ v / 2 ^ w * 2 ^ w + r) low) (mod_below n (2 ^ v) (pow_pos v)) (mod_below n (2 ^ w) (pow_pos w))
  where
    by : (k q r s m t : ℕ) → t ≡ k * s → m ≡ q * s + r → m < t → r < s → (t - 1 - m) % s ≡ s - 1 - r
    by k q r s m t a b l g = ⊎_elim (λ (o : q < k). inside (k - 1 - q) (omega arith)) (λ (o : k ≤ q). absurd (omega (arith, times o))) (cases_lt q k)
      where
        times : k ≤ q → k * s ≤ q * s
        times o = mul-le-mul_right s o

        inside : (j : ℕ) → k ≡ j + q + 1 → (t - 1 - m) % s ≡ s - 1 - r
        inside j e =
            let product : k * s ≡ j * s + q * s + s = ap (λ n. n * s) e ∙ grind arith in
            let apart : t - 1 - m ≡ s - 1 - r + j * s = omega arith in
            ap (λ n. n % s) apart ∙ add-mul-mod_self_right (s - 1 - r) j s ∙ mod-eq_of_lt (omega arith)

cut_wrapped : (u w : ℕ) (z : ℤ) → u ≤ w → wrapped w z % 2 ^ u ≡ wrapped u z
unfolding wrapped
cut_wrapped u w (pos n) h = cut_twice w u n h
cut_wrapped u w (negsuc n) h = cut_high n w u h

pub cut_of_extended : (u w a : ℕ) → 1 ≤ u → u ≤ w → a < 2 ^ u → sign_extended u w a % 2 ^ u ≡ a
unfolding sign_extended
cut_of_extended u w a some h k = cut_wrapped u w (signed_of u a) h ∙ bits_back u a some k

pub cut_of_zeros : (u w a : ℕ) → u ≤ w → a < 2 ^ u → zero_extended w a % 2 ^ u ≡ a
unfolding zero_extended
cut_of_zeros u w a h k = cut_twice w u a h ∙ mod-eq_of_lt k

-- comparisons
pub mirror : (p : Predicate) (w a b : ℕ) → comparison_of w p a b ≡ comparison_of w (mirrored p) b a
unfolding comparison_of
mirror asks.Equal w a b = grind (arith, nat_tests)
mirror asks.NotEqual w a b = grind (arith, nat_tests)
mirror asks.SignedLess w a b = refl
mirror asks.SignedLessOrEqual w a b = refl
mirror asks.SignedGreater w a b = refl
mirror asks.SignedGreaterOrEqual w a b = refl
mirror asks.UnsignedLess w a b = refl
mirror asks.UnsignedLessOrEqual w a b = refl
mirror asks.UnsignedGreater w a b = refl
mirror asks.UnsignedGreaterOrEqual w a b = refl

not_less_itself : (x : ℤ) → int_lt x x ≡ false
not_less_itself x = grind (arith, ints)

at_most_itself : (x : ℤ) → int_le x x ≡ true
at_most_itself x = grind (arith, ints)

pub with_itself : (p : Predicate) (w a : ℕ) → comparison_of w p a a ≡ holds_of_itself p
unfolding comparison_of
with_itself asks.Equal w a = grind (arith, nat_tests)
with_itself asks.NotEqual w a = grind (arith, nat_tests)
with_itself asks.SignedLess w a = not_less_itself (signed_of w a)
with_itself asks.SignedLessOrEqual w a = at_most_itself (signed_of w a)
with_itself asks.SignedGreater w a = not_less_itself (signed_of w a)
with_itself asks.SignedGreaterOrEqual w a = at_most_itself (signed_of w a)
with_itself asks.UnsignedLess w a = grind (arith, nat_tests)
with_itself asks.UnsignedLessOrEqual w a = grind (arith, nat_tests)
with_itself asks.UnsignedGreater w a = grind (arith, nat_tests)
with_itself asks.UnsignedGreaterOrEqual w a = grind (arith, nat_tests)

pub below_zero : (w a : ℕ) → comparison_of w asks.UnsignedLess a 0 ≡ false
unfolding comparison_of
below_zero w a = grind (arith, nat_tests)

pub not_below_zero : (w a : ℕ) → comparison_of w asks.UnsignedGreaterOrEqual a 0 ≡ true
unfolding comparison_of
not_below_zero w a = grind (arith, nat_tests)

as_choice : {x : ℕ} (t : Bool) (a b : ℕ) → x ≡ (if t then a else b) → x ≡ choice_of (truth t) a b
as_choice true a b e = e
as_choice false a b e = e

pub same_choice : {A : Type 0} (c : ℕ) (a : A) → choice_of c a a ≡ a
same_choice c a = by (c == 0)
  where
    by : (t : Bool) → (if t then a else a) ≡ a
    by true = refl
    by false = refl

pub own_choice : (c : ℕ) → c < 2 ^ 1 → choice_of c 1 0 ≡ c
own_choice zero h = refl
own_choice (suc zero) h = refl
own_choice (suc (suc c)) h = absurd (omega arith)

pub other_choice : {A : Type 0} (c : ℕ) (a b : A) → c < 2 ^ 1 → choice_of (bit_xor c (all_ones 1)) a b ≡ choice_of c b a
other_choice zero a b h = refl
other_choice (suc zero) a b h = refl
other_choice (suc (suc c)) a b h = absurd (omega arith)

pub extended_back : (u v a : ℕ) → 1 ≤ u → u ≤ v → a < 2 ^ u → sign_extended v u (sign_extended u v a) ≡ a
extended_back u v a some h k = extended_twice u v u a some h k ∙ extended_to_itself u a some k

pub zeros_back : (u v a : ℕ) → u ≤ v → a < 2 ^ u → zero_extended u (zero_extended v a) ≡ a
zeros_back u v a h k = zeros_twice u v u a h k ∙ zeros_to_itself u a k

pub truncated_twice : (u v w a b : ℕ) → w < v → truncated u v a ≡ Some b → truncated v w b ≡ truncated u w a
unfolding truncated
truncated_twice u v w a b h e = by (nat_lt v u) refl e
  where
    by : (t : Bool) → nat_lt v u ≡ t → (if t then Some (a % 2 ^ v) else None) ≡ Some b → (if nat_lt w v then Some (b % 2 ^ w) else None) ≡ (if nat_lt w u then Some (a % 2 ^ w) else None)
    by false z f = absurd (cc f)
    by true z f =
        let lower : nat_lt w v ≡ true = grind (arith, nat_tests) in
        let through : nat_lt w u ≡ true = grind (arith, nat_tests) in
        let at : a % 2 ^ v ≡ b = cc in
        rw (lower, through, ← at) (ap Some (cut_twice v w a (omega arith)))

pub truncated_back : (u w a : ℕ) → 1 ≤ u → u < w → a < 2 ^ u → truncated w u (sign_extended u w a) ≡ Some a
unfolding truncated
truncated_back u w a some h k =
    let lower : nat_lt u w ≡ true = grind (arith, nat_tests) in
    rw lower (ap Some (cut_of_extended u w a some (omega arith) k))

pub truncated_zeros_back : (u w a : ℕ) → u < w → a < 2 ^ u → truncated w u (zero_extended w a) ≡ Some a
unfolding truncated
truncated_zeros_back u w a h k =
    let lower : nat_lt u w ≡ true = grind (arith, nat_tests) in
    rw lower (ap Some (cut_of_zeros u w a (omega arith) k))

-- the maximum and the minimum by a comparison and a select
pub signed_maximum_chosen : (w a b : ℕ) → 1 ≤ w → a < 2 ^ w → b < 2 ^ w → signed_maximum_of w a b ≡ choice_of (truth (comparison_of w asks.SignedGreater a b)) a b
unfolding comparison_of signed_maximum_of
signed_maximum_chosen w a b some ha hb = as_choice (int_lt (signed_of w b) (signed_of w a)) a b (picked (signed_of w a) (signed_of w b) a b (reading_apart w a b some ha hb))

pub signed_minimum_chosen : (w a b : ℕ) → 1 ≤ w → a < 2 ^ w → b < 2 ^ w → signed_minimum_of w a b ≡ choice_of (truth (comparison_of w asks.SignedLess a b)) a b
unfolding comparison_of signed_minimum_of
signed_minimum_chosen w a b some ha hb = as_choice (int_lt (signed_of w a) (signed_of w b)) a b (picked (signed_of w b) (signed_of w a) a b (λ e. reading_apart w a b some ha hb (sym e)))

pub maximum_chosen : (w a b : ℕ) → maximum_of a b ≡ choice_of (truth (comparison_of w asks.UnsignedGreater a b)) a b
unfolding comparison_of maximum_of
maximum_chosen w a b = as_choice (nat_lt b a) a b (picked_number a b)

lesser_picked : (a b : ℕ) → (if nat_lt b a then b else a) ≡ (if nat_lt a b then a else b)
lesser_picked a b = grind (arith, nat_tests)

pub minimum_chosen : (w a b : ℕ) → minimum_of a b ≡ choice_of (truth (comparison_of w asks.UnsignedLess a b)) a b
unfolding comparison_of minimum_of
minimum_chosen w a b = as_choice (nat_lt a b) a b (lesser_picked a b)

-- a difference as a sum
pub less_constant : (w a c : ℕ) → c < 2 ^ w → difference_of w a c ≡ sum_of w a (difference_of w 0 c)
unfolding sum_of
less_constant w a c h =
    let e : 0 + (2 ^ w - c) ≡ 2 ^ w - c = omega arith in
    difference_is w a c (omega arith) ∙ sym (add-mod-mod a (2 ^ w - c) (2 ^ w)) ∙ ap (λ n. (a + n) % 2 ^ w) (ap (λ n. n % 2 ^ w) (sym e) ∙ sym (difference_is w 0 c (omega arith)))

low_bit : (r : ℕ) → r < 2 → bit_xor r 1 ≡ 1 - r
low_bit zero h = refl
low_bit (suc zero) h = refl
low_bit (suc (suc r)) h = absurd (omega arith)

-- the complement of b has the inverted bits
xor_ones : (w b : ℕ) → b < 2 ^ w → bit_xor b (2 ^ w - 1) ≡ 2 ^ w - 1 - b
xor_ones zero b h = let e : b ≡ 0 = omega arith in rw e refl
xor_ones (suc w) b h =
    let two : 2 ^ suc w ≡ 2 ^ w * 2 = pow-suc 2 w in
    let some = pow_pos w in
    let left : b ≡ b / 2 * 2 ^ 1 + b % 2 = omega arith in
    let right : 2 ^ suc w - 1 ≡ (2 ^ w - 1) * 2 ^ 1 + 1 = omega arith in
    let parts : bit_xor (b / 2 * 2 ^ 1 + b % 2) ((2 ^ w - 1) * 2 ^ 1 + 1) ≡ bit_xor (b / 2) (2 ^ w - 1) * 2 ^ 1 + bit_xor (b % 2) 1 = xor_block 1 (b / 2) (2 ^ w - 1) (b % 2) 1 (omega arith) (lit< tt) in
    let high : bit_xor (b / 2) (2 ^ w - 1) ≡ 2 ^ w - 1 - b / 2 = xor_ones w (b / 2) (omega arith) in
    let low : bit_xor (b % 2) 1 ≡ 1 - b % 2 = low_bit (b % 2) (omega arith) in
    ap (λ n. bit_xor n (2 ^ suc w - 1)) left ∙ ap (bit_xor (b / 2 * 2 ^ 1 + b % 2)) right ∙ parts ∙ omega arith

pub less_by_complement : (w a b : ℕ) → b < 2 ^ w → difference_of w a b ≡ sum_of w a (sum_of w (bit_xor b (all_ones w)) 1)
unfolding sum_of
less_by_complement w a b h =
    let e : bit_xor b (2 ^ w - 1) + 1 ≡ 2 ^ w - b = ap (λ n. n + 1) (xor_ones w b h) ∙ omega arith in
    difference_is w a b (omega arith) ∙ sym (ap (λ n. (a + n % 2 ^ w) % 2 ^ w) e ∙ add-mod-mod a (2 ^ w - b) (2 ^ w))

pub complement_twice : (w b : ℕ) → b < 2 ^ w → bit_xor (bit_xor b (all_ones w)) (all_ones w) ≡ b
complement_twice w b h =
    let some = pow_pos w in
    let once = xor_ones w b h in
    rw once (xor_ones w (2 ^ w - 1 - b) (omega arith) ∙ omega arith)

-- a remainder by division
pub rest_of_quotient : (w a b q : ℕ) → a < 2 ^ w → quotient_of a b ≡ Some q → remainder_of a b ≡ Some (difference_of w a (product_of w q b))
unfolding quotient_of remainder_of product_of
rest_of_quotient w a b q h e = by (b == 0) refl e
  where
    by : (t : Bool) → (b == 0) ≡ t → (if t then None else Some (a / b)) ≡ Some q → (if t then None else Some (a % b)) ≡ Some (difference_of w a (q * b % 2 ^ w))
    by true z f = absurd (cc f)
    by false z f =
        let positive : 0 < b = grind (arith, nat_tests) in
        let at : a / b ≡ q = cc in
        let whole : q * b + a % b ≡ a = ap (λ n. n * b + a % b) (sym at) ∙ div-add-mod' a b in
        let product : q * b % 2 ^ w ≡ q * b = mod-eq_of_lt (omega arith) in
        let up : a + (2 ^ w - q * b) ≡ 2 ^ w + a % b = omega arith in
        let small : q * b ≤ 2 ^ w = omega arith in
        let left : a % b < 2 ^ w = omega arith in
        let rest : difference_of w a (q * b) ≡ a % b = difference_is w a (q * b) small ∙ ap (λ n. n % 2 ^ w) up ∙ add-mod_left (2 ^ w) (a % b) ∙ mod-eq_of_lt left in
        ap Some (sym (ap (difference_of w a) product ∙ rest))
