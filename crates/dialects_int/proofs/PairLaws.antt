-- Theorems about operations on two values.
use Rattle.std.proofs.Common.{◌≡◌, ℕ, zero, suc, ◌+◌, ◌-◌, ◌*◌, ◌/◌, ◌%◌, ◌^◌, ◌<◌, ◌≤◌, ℤ, pos, negsuc, neg_ℤ, ◌-ℤ◌, max, sym, ap, refl, ◌∙◌, arith, Bool, true, false, Some, None}
use Rattle.std.specs.Prelude.{bit_and, bit_or, bit_xor, nat_lt, int_lt, int_div, int_rem, if◌then◌else◌}
use Rattle.std.specs.Int.{int_shr}
use Rattle.std.specs.Int.Bits.{xor_assoc, xor_self, or_self, and_self, xor_zero_r, or_zero_r, and_zero_l, and_zero_r, or_add_and}
use lib.Signed.{◌<ℤ◌, ◌≤ℤ◌}
use Rattle.std.specs.Int.{bit_at}
use Rattle.std.proofs.lemmas.Nat.Bits.{bit_at_or, same_from_bits}
use Rattle.std.proofs.lemmas.Nat.{and_comm, or_comm, xor_comm, and_assoc, and_mask, mul-mod_second, pow_pos}
use Rattle.std.proofs.lemmas.Int.{ints, by_lt_z}
use Rattle.std.proofs.lemmas.Bool.Decides.{nat_tests}
use Rattle.std.proofs.Math.Nat.{mod-eq_of_lt, add-mod-mod, mod-add-mod, add-mod_left, pow-suc}
use Rattle.ir_types.specs.Readings.{signed_of, wrapped}
use Rattle.dialects_int.specs.declared.operations.Arithmetic.{Arithmetic}
use Rattle.dialects_int.specs.declared.operations.Arithmetic.TheVariants as op
use Rattle.dialects_int.specs.Arithmetic.{sum_of, difference_of, product_of, all_ones, signed_quotient_of, signed_remainder_of, quotient_of, remainder_of, left_shift_of, right_shift_of, signed_right_shift_of, signed_maximum_of, maximum_of, signed_minimum_of, minimum_of, value_of, absorbs}
use Rattle.dialects_int.specs.Laws.{commutes, associates, ignores_zero, ignores_one, keeps_itself}
use Rattle.ir_types.proofs.Widths.{signed_low}
use Rattle.dialects_int.proofs.Widths.{difference_is}
use Rattle.ir_types.proofs.ReadingLaws.{bits_back}

wrapped_zero : (w : ℕ) → wrapped w (pos 0) ≡ 0
unfolding wrapped
wrapped_zero w = mod-eq_of_lt (pow_pos w)

either : {A : Type 0} (t : Bool) (x : A) → (if t then x else x) ≡ x
either true x = refl
either false x = refl

-- values with the same signed value are equal
pub reading_apart : (w a b : ℕ) → 1 ≤ w → a < 2 ^ w → b < 2 ^ w → signed_of w a ≡ signed_of w b → a ≡ b
reading_apart w a b some ha hb e = sym (bits_back w a some ha) ∙ ap (wrapped w) e ∙ bits_back w b some hb

less : (x y : ℤ) → x <ℤ y → int_lt x y ≡ true
less x y h = grind (arith, ints)

not_less : (x y : ℤ) → y ≤ℤ x → int_lt x y ≡ false
not_less x y h = grind (arith, ints)

-- the selected value doesn't depend on the order of the two
pub picked : (x y : ℤ) (a b : ℕ) → (x ≡ y → a ≡ b) → (if int_lt x y then b else a) ≡ (if int_lt y x then a else b)
picked x y a b h =
    by_lt_z x y
    (λ l. let k : x ≤ℤ y = omega (arith, ints) in rw (less x y l, not_less y x k) refl)
    (λ l. by_lt_z y x
    (λ k. rw (not_less x y l, less y x k) refl)
    (λ k. let e : x ≡ y = omega (arith, ints) in rw (not_less x y l, not_less y x k) (h e)))

pub picked_number : (a b : ℕ) → (if nat_lt a b then b else a) ≡ (if nat_lt b a then a else b)
picked_number a b = grind (arith, nat_tests)

pub swaps : (o : Arithmetic) (w a b : ℕ) → 1 ≤ w → a < 2 ^ w → b < 2 ^ w → commutes o ≡ true → value_of o w a b ≡ value_of o w b a
unfolding sum_of product_of signed_maximum_of maximum_of signed_minimum_of minimum_of
swaps op.Add w a b some ha hb h = ap (λ n. Some (n % 2 ^ w)) (omega arith)
swaps op.Subtract w a b some ha hb h = absurd (cc h)
swaps op.Multiply w a b some ha hb h = ap (λ n. Some (n % 2 ^ w)) (omega arith)
swaps op.ShiftLeft w a b some ha hb h = absurd (cc h)
swaps op.DivideSigned w a b some ha hb h = absurd (cc h)
swaps op.DivideUnsigned w a b some ha hb h = absurd (cc h)
swaps op.RemainderSigned w a b some ha hb h = absurd (cc h)
swaps op.RemainderUnsigned w a b some ha hb h = absurd (cc h)
swaps op.And w a b some ha hb h = ap Some (and_comm a b)
swaps op.Or w a b some ha hb h = ap Some (or_comm a b)
swaps op.ExclusiveOr w a b some ha hb h = ap Some (xor_comm a b)
swaps op.ShiftRightSigned w a b some ha hb h = absurd (cc h)
swaps op.ShiftRightUnsigned w a b some ha hb h = absurd (cc h)
swaps op.MaximumSigned w a b some ha hb h = ap Some (picked (signed_of w a) (signed_of w b) a b (reading_apart w a b some ha hb))
swaps op.MaximumUnsigned w a b some ha hb h = ap Some (picked_number a b)
swaps op.MinimumSigned w a b some ha hb h = ap Some (sym (picked (signed_of w a) (signed_of w b) b a (λ e. sym (reading_apart w a b some ha hb e))))
swaps op.MinimumUnsigned w a b some ha hb h = ap Some (grind (arith, nat_tests))

sum_again : (w a b c : ℕ) → sum_of w (sum_of w a b) c ≡ sum_of w a (sum_of w b c)
unfolding sum_of
sum_again w a b c = mod-add-mod (a + b) (2 ^ w) c ∙ ap (λ n. n % 2 ^ w) (omega arith) ∙ sym (add-mod-mod a (b + c) (2 ^ w))

product_again : (w a b c : ℕ) → product_of w (product_of w a b) c ≡ product_of w a (product_of w b c)
unfolding product_of
product_again w a b c =
    let swap : (a * b) % 2 ^ w * c ≡ c * ((a * b) % 2 ^ w) = omega arith in
    let triple : c * (a * b) ≡ a * (b * c) = grind arith in
    ap (λ n. n % 2 ^ w) swap ∙ mul-mod_second c (a * b) (2 ^ w) ∙ ap (λ n. n % 2 ^ w) triple ∙ sym (mul-mod_second a (b * c) (2 ^ w))

or_again : (a b c : ℕ) → bit_or (bit_or a b) c ≡ bit_or a (bit_or b c)
or_again a b c = same_from_bits (bit_or (bit_or a b) c) (bit_or a (bit_or b c)) (λ i.
    bit_at_or (bit_or a b) c i ∙ ap (λ n. max n (bit_at c i)) (bit_at_or a b i) ∙ omega arith ∙ sym (ap (max (bit_at a i)) (bit_at_or b c i)) ∙ sym (bit_at_or a (bit_or b c) i))

-- associativity: (a o b) o c is a o (b o c)
pub brackets : (o : Arithmetic) (w a b c ab bc : ℕ) → associates o ≡ true → value_of o w a b ≡ Some ab → value_of o w b c ≡ Some bc → value_of o w ab c ≡ value_of o w a bc
brackets op.Add w a b c ab bc h e f = let g : sum_of w a b ≡ ab = cc in let k : sum_of w b c ≡ bc = cc in rw (← g, ← k) (ap Some (sum_again w a b c))
brackets op.Subtract w a b c ab bc h e f = absurd (cc h)
brackets op.Multiply w a b c ab bc h e f = let g : product_of w a b ≡ ab = cc in let k : product_of w b c ≡ bc = cc in rw (← g, ← k) (ap Some (product_again w a b c))
brackets op.ShiftLeft w a b c ab bc h e f = absurd (cc h)
brackets op.DivideSigned w a b c ab bc h e f = absurd (cc h)
brackets op.DivideUnsigned w a b c ab bc h e f = absurd (cc h)
brackets op.RemainderSigned w a b c ab bc h e f = absurd (cc h)
brackets op.RemainderUnsigned w a b c ab bc h e f = absurd (cc h)
brackets op.And w a b c ab bc h e f = let g : bit_and a b ≡ ab = cc in let k : bit_and b c ≡ bc = cc in rw (← g, ← k) (ap Some (and_assoc c a b))
brackets op.Or w a b c ab bc h e f = let g : bit_or a b ≡ ab = cc in let k : bit_or b c ≡ bc = cc in rw (← g, ← k) (ap Some (or_again a b c))
brackets op.ExclusiveOr w a b c ab bc h e f = let g : bit_xor a b ≡ ab = cc in let k : bit_xor b c ≡ bc = cc in rw (← g, ← k) (ap Some (xor_assoc a b c))
brackets op.ShiftRightSigned w a b c ab bc h e f = absurd (cc h)
brackets op.ShiftRightUnsigned w a b c ab bc h e f = absurd (cc h)
brackets op.MaximumSigned w a b c ab bc h e f = absurd (cc h)
brackets op.MaximumUnsigned w a b c ab bc h e f = absurd (cc h)
brackets op.MinimumSigned w a b c ab bc h e f = absurd (cc h)
brackets op.MinimumUnsigned w a b c ab bc h e f = absurd (cc h)

zero_less : (w : ℕ) → 1 ≤ w → nat_lt 0 w ≡ true
zero_less w h = grind (arith, nat_tests)

by_one : (a : ℕ) → a / 2 ^ 0 ≡ a
by_one a = omega arith

times_one : (w a : ℕ) → a < 2 ^ w → (a * 2 ^ 0) % 2 ^ w ≡ a
times_one w a h = let e : a * 2 ^ 0 ≡ a = omega arith in ap (λ n. n % 2 ^ w) e ∙ mod-eq_of_lt h

unshifted : (z : ℤ) → int_shr z 0 ≡ z
unshifted (pos a) = ap pos (by_one a)
unshifted (negsuc a) = ap negsuc (by_one a)

less_zero : (w a : ℕ) → a < 2 ^ w → difference_of w a 0 ≡ a
less_zero w a h = let e : a + (2 ^ w - 0) ≡ 2 ^ w + a = omega arith in difference_is w a 0 (omega arith) ∙ ap (λ n. n % 2 ^ w) e ∙ add-mod_left (2 ^ w) a ∙ mod-eq_of_lt h

-- 0 on the right
pub zero_ignored : (o : Arithmetic) (w a : ℕ) → 1 ≤ w → a < 2 ^ w → ignores_zero o ≡ true → value_of o w a 0 ≡ Some a
unfolding sum_of left_shift_of right_shift_of signed_right_shift_of
zero_ignored op.Add w a some ha h = let e : a + 0 ≡ a = omega arith in rw e (ap Some (mod-eq_of_lt ha))
zero_ignored op.Subtract w a some ha h = ap Some (less_zero w a ha)
zero_ignored op.Multiply w a some ha h = absurd (cc h)
zero_ignored op.ShiftLeft w a some ha h = rw (zero_less w some) (ap Some (times_one w a ha))
zero_ignored op.DivideSigned w a some ha h = absurd (cc h)
zero_ignored op.DivideUnsigned w a some ha h = absurd (cc h)
zero_ignored op.RemainderSigned w a some ha h = absurd (cc h)
zero_ignored op.RemainderUnsigned w a some ha h = absurd (cc h)
zero_ignored op.And w a some ha h = absurd (cc h)
zero_ignored op.Or w a some ha h = ap Some (or_zero_r a)
zero_ignored op.ExclusiveOr w a some ha h = ap Some (xor_zero_r a)
zero_ignored op.ShiftRightSigned w a some ha h = rw (zero_less w some) (ap Some (ap (wrapped w) (unshifted (signed_of w a)) ∙ bits_back w a some ha))
zero_ignored op.ShiftRightUnsigned w a some ha h = rw (zero_less w some) (ap Some (by_one a))
zero_ignored op.MaximumSigned w a some ha h = absurd (cc h)
zero_ignored op.MaximumUnsigned w a some ha h = absurd (cc h)
zero_ignored op.MinimumSigned w a some ha h = absurd (cc h)
zero_ignored op.MinimumUnsigned w a some ha h = absurd (cc h)

divided_by_one : (z : ℤ) → int_div z (pos 1) ≡ z
divided_by_one (pos a) = ap pos (omega arith)
divided_by_one (negsuc a) = let e : suc a / 1 ≡ suc a = omega arith in ap (λ n. neg_ℤ (pos n)) e

left_by_one : (z : ℤ) → int_rem z (pos 1) ≡ pos 0
left_by_one (pos a) = ap pos (omega arith)
left_by_one (negsuc a) = let e : suc a % 1 ≡ 0 = omega arith in ap (λ n. neg_ℤ (pos n)) e

signed_one : (w : ℕ) → signed_of (suc (suc w)) 1 ≡ pos 1
signed_one w =
    let e : suc (suc w) - 1 ≡ suc w = omega arith in
    let two : 2 ^ suc w ≡ 2 ^ w * 2 = pow-suc 2 w in
    signed_low (suc (suc w)) 1 (rw e (omega (arith, pow_pos w)))

chosen : {A : Type 0} (t : Bool) (x v : A) → (if t then Some x else None) ≡ Some v → x ≡ v
chosen true x v e = cc
chosen false x v e = absurd (cc e)

bit_quotient : (v : ℕ) → signed_quotient_of 1 0 1 ≡ Some v → 0 ≡ v
unfolding signed_quotient_of signed_of wrapped
bit_quotient v e = cc e

quotient_by_one : (w a v : ℕ) → 1 ≤ w → a < 2 ^ w → signed_quotient_of w a 1 ≡ Some v → v ≡ a
unfolding signed_quotient_of
quotient_by_one zero a v some h e = absurd (omega arith)
quotient_by_one (suc zero) zero v some h e = sym (bit_quotient v e)
quotient_by_one (suc zero) (suc zero) v some h e = absurd (cc e)
quotient_by_one (suc zero) (suc (suc a)) v some h e = absurd (omega arith)
quotient_by_one (suc (suc w)) a v some h e =
    sym (chosen _ _ v e) ∙ ap (λ d. wrapped (suc (suc w)) (int_div (signed_of (suc (suc w)) a) d)) (signed_one w) ∙ ap (wrapped (suc (suc w))) (divided_by_one (signed_of (suc (suc w)) a)) ∙ bits_back (suc (suc w)) a (omega arith) h

bit_remainder : (v : ℕ) → signed_remainder_of 1 0 1 ≡ Some v → 0 ≡ v
unfolding signed_remainder_of signed_of wrapped
bit_remainder v e = cc e

remainder_by_one : (w a v : ℕ) → 1 ≤ w → a < 2 ^ w → signed_remainder_of w a 1 ≡ Some v → v ≡ 0
unfolding signed_remainder_of
remainder_by_one zero a v some h e = absurd (omega arith)
remainder_by_one (suc zero) zero v some h e = sym (bit_remainder v e)
remainder_by_one (suc zero) (suc zero) v some h e = absurd (cc e)
remainder_by_one (suc zero) (suc (suc a)) v some h e = absurd (omega arith)
remainder_by_one (suc (suc w)) a v some h e =
    sym (chosen _ _ v e) ∙ ap (λ d. wrapped (suc (suc w)) (int_rem (signed_of (suc (suc w)) a) d)) (signed_one w) ∙ ap (wrapped (suc (suc w))) (left_by_one (signed_of (suc (suc w)) a)) ∙ wrapped_zero (suc (suc w))

-- 1 on the right
pub one_ignored : (o : Arithmetic) (w a v : ℕ) → 1 ≤ w → a < 2 ^ w → ignores_one o ≡ true → value_of o w a 1 ≡ Some v → v ≡ a
unfolding product_of quotient_of
one_ignored op.Add w a v some ha h e = absurd (cc h)
one_ignored op.Subtract w a v some ha h e = absurd (cc h)
one_ignored op.Multiply w a v some ha h e = let f : (a * 1) % 2 ^ w ≡ v = cc in sym f ∙ times_one w a ha
one_ignored op.ShiftLeft w a v some ha h e = absurd (cc h)
one_ignored op.DivideSigned w a v some ha h e = quotient_by_one w a v some ha e
one_ignored op.DivideUnsigned w a v some ha h e = let f : a / 1 ≡ v = cc in sym f ∙ by_one a
one_ignored op.RemainderSigned w a v some ha h e = absurd (cc h)
one_ignored op.RemainderUnsigned w a v some ha h e = absurd (cc h)
one_ignored op.And w a v some ha h e = absurd (cc h)
one_ignored op.Or w a v some ha h e = absurd (cc h)
one_ignored op.ExclusiveOr w a v some ha h e = absurd (cc h)
one_ignored op.ShiftRightSigned w a v some ha h e = absurd (cc h)
one_ignored op.ShiftRightUnsigned w a v some ha h e = absurd (cc h)
one_ignored op.MaximumSigned w a v some ha h e = absurd (cc h)
one_ignored op.MaximumUnsigned w a v some ha h e = absurd (cc h)
one_ignored op.MinimumSigned w a v some ha h e = absurd (cc h)
one_ignored op.MinimumUnsigned w a v some ha h e = absurd (cc h)

pub nothing_left : (w a v : ℕ) → 1 ≤ w → a < 2 ^ w → value_of op.RemainderSigned w a 1 ≡ Some v → v ≡ 0
nothing_left w a v some ha e = remainder_by_one w a v some ha e

pub nothing_left_unsigned : (w a : ℕ) → value_of op.RemainderUnsigned w a 1 ≡ Some 0
unfolding remainder_of
nothing_left_unsigned w a = ap Some (omega arith)

-- a value and itself
pub itself_kept : (o : Arithmetic) (w a : ℕ) → keeps_itself o ≡ true → value_of o w a a ≡ Some a
unfolding signed_maximum_of maximum_of signed_minimum_of minimum_of
itself_kept op.Add w a h = absurd (cc h)
itself_kept op.Subtract w a h = absurd (cc h)
itself_kept op.Multiply w a h = absurd (cc h)
itself_kept op.ShiftLeft w a h = absurd (cc h)
itself_kept op.DivideSigned w a h = absurd (cc h)
itself_kept op.DivideUnsigned w a h = absurd (cc h)
itself_kept op.RemainderSigned w a h = absurd (cc h)
itself_kept op.RemainderUnsigned w a h = absurd (cc h)
itself_kept op.And w a h = ap Some (and_self a)
itself_kept op.Or w a h = ap Some (or_self a)
itself_kept op.ExclusiveOr w a h = absurd (cc h)
itself_kept op.ShiftRightSigned w a h = absurd (cc h)
itself_kept op.ShiftRightUnsigned w a h = absurd (cc h)
itself_kept op.MaximumSigned w a h = ap Some (either (int_lt (signed_of w a) (signed_of w a)) a)
itself_kept op.MaximumUnsigned w a h = ap Some (either (nat_lt a a) a)
itself_kept op.MinimumSigned w a h = ap Some (either (int_lt (signed_of w a) (signed_of w a)) a)
itself_kept op.MinimumUnsigned w a h = ap Some (either (nat_lt a a) a)

pub itself_gone : (w a : ℕ) → value_of op.Subtract w a a ≡ Some 0
unfolding difference_of
itself_gone w a = let e : pos a -ℤ pos a ≡ pos 0 = omega (arith, ints) in ap (λ z. Some (wrapped w z)) e ∙ ap Some (wrapped_zero w)

pub itself_cleared : (w a : ℕ) → value_of op.ExclusiveOr w a a ≡ Some 0
itself_cleared w a = ap Some (xor_self a)

-- all ones
pub ones_ignored : (w a : ℕ) → a < 2 ^ w → value_of op.And w a (all_ones w) ≡ Some a
ones_ignored w a h = ap Some (and_mask a w ∙ mod-eq_of_lt h)

ones_or : (w b : ℕ) → b < 2 ^ w → bit_or (all_ones w) b ≡ all_ones w
ones_or w b h =
    let e : bit_and (all_ones w) b ≡ b = and_comm (all_ones w) b ∙ and_mask b w ∙ mod-eq_of_lt h in
    omega (arith, or_add_and (all_ones w) b)

-- an absorbing operand
pub absorbed : (o : Arithmetic) (w a b : ℕ) → b < 2 ^ w → absorbs o w a ≡ true → value_of o w a b ≡ Some a
unfolding absorbs product_of
absorbed op.Add w a b hb h = absurd (cc h)
absorbed op.Subtract w a b hb h = absurd (cc h)
absorbed op.Multiply w a b hb h = let e : a ≡ 0 = grind (arith, nat_tests) in let f : 0 * b ≡ 0 = omega arith in rw (e, f) (ap Some (mod-eq_of_lt (pow_pos w)))
absorbed op.ShiftLeft w a b hb h = absurd (cc h)
absorbed op.DivideSigned w a b hb h = absurd (cc h)
absorbed op.DivideUnsigned w a b hb h = absurd (cc h)
absorbed op.RemainderSigned w a b hb h = absurd (cc h)
absorbed op.RemainderUnsigned w a b hb h = absurd (cc h)
absorbed op.And w a b hb h = let e : a ≡ 0 = grind (arith, nat_tests) in rw e (ap Some (and_zero_l b))
absorbed op.Or w a b hb h = let e : a ≡ all_ones w = grind (arith, nat_tests) in rw e (ap Some (ones_or w b hb))
absorbed op.ExclusiveOr w a b hb h = absurd (cc h)
absorbed op.ShiftRightSigned w a b hb h = absurd (cc h)
absorbed op.ShiftRightUnsigned w a b hb h = absurd (cc h)
absorbed op.MaximumSigned w a b hb h = absurd (cc h)
absorbed op.MaximumUnsigned w a b hb h = absurd (cc h)
absorbed op.MinimumSigned w a b hb h = absurd (cc h)
absorbed op.MinimumUnsigned w a b hb h = absurd (cc h)

pub absorbed_right : (o : Arithmetic) (w a b : ℕ) → a < 2 ^ w → absorbs o w b ≡ true → value_of o w a b ≡ Some b
unfolding absorbs product_of
absorbed_right op.Add w a b ha h = absurd (cc h)
absorbed_right op.Subtract w a b ha h = absurd (cc h)
absorbed_right op.Multiply w a b ha h = let e : b ≡ 0 = grind (arith, nat_tests) in let f : a * 0 ≡ 0 = omega arith in rw (e, f) (ap Some (mod-eq_of_lt (pow_pos w)))
absorbed_right op.ShiftLeft w a b ha h = absurd (cc h)
absorbed_right op.DivideSigned w a b ha h = absurd (cc h)
absorbed_right op.DivideUnsigned w a b ha h = absurd (cc h)
absorbed_right op.RemainderSigned w a b ha h = absurd (cc h)
absorbed_right op.RemainderUnsigned w a b ha h = absurd (cc h)
absorbed_right op.And w a b ha h = let e : b ≡ 0 = grind (arith, nat_tests) in rw e (ap Some (and_zero_r a))
absorbed_right op.Or w a b ha h = let e : b ≡ all_ones w = grind (arith, nat_tests) in rw e (ap Some (or_comm a (all_ones w) ∙ ones_or w a ha))
absorbed_right op.ExclusiveOr w a b ha h = absurd (cc h)
absorbed_right op.ShiftRightSigned w a b ha h = absurd (cc h)
absorbed_right op.ShiftRightUnsigned w a b ha h = absurd (cc h)
absorbed_right op.MaximumSigned w a b ha h = absurd (cc h)
absorbed_right op.MaximumUnsigned w a b ha h = absurd (cc h)
absorbed_right op.MinimumSigned w a b ha h = absurd (cc h)
absorbed_right op.MinimumUnsigned w a b ha h = absurd (cc h)
