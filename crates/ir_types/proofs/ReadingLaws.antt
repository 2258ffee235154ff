-- The bits of integers and the numbers that they represent, at every width.
use Rattle.std.proofs.Common.{◌≡◌, ℕ, suc, ◌+◌, ◌-◌, ◌*◌, ◌/◌, ◌%◌, ◌^◌, ◌<◌, ◌≤◌, ℤ, pos, negsuc, ◌+ℤ◌, ◌-ℤ◌, ◌*ℤ◌, sym, ap, refl, ◌∙◌, subst, arith, Bool, true, false, Some, None, ⊎_elim, ltb-true, lt-ltb, leb-true}
use Rattle.std.specs.Prelude.{unsigned_abs, int_lt, nat_lt, if◌then◌else◌, ◌↔◌}
use Rattle.std.specs.Int.{int_rem_euclid}
use Rattle.std.proofs.lemmas.Nat.{mod_below, pow_pos}
use Rattle.std.proofs.lemmas.Int.{ints, int_rem_euclid_is}
use borrow.Author.Differences.{up, down, same_in, same_out, sum_is_lem, product_is}
use Rattle.std.proofs.lemmas.Bool.Decides.{nat_tests, Decides-eqb}
use Rattle.std.proofs.Math.Nat.{mod-eq_of_lt, div-add-mod', mul-le-mul_left}
use Rattle.std.proofs.lemmas.Bool.{cases_lt}
use Rattle.ir_types.specs.declared.node.Sign.{Sign}
use Rattle.ir_types.specs.declared.node.Sign.TheVariants.{Signless, Signed, Unsigned}
use Rattle.ir_types.specs.Terms.{TypeTerm, Integer, Index, Function, Memref, OpaqueType}
use Rattle.ir_types.specs.Limits.{index_width}
use Rattle.ir_types.specs.Ranges.{is_signed, is_unsigned, is_literal, is_value, is_signed_number, is_value_number}
use Rattle.ir_types.specs.Readings.{IsSameModulo, signed_of, wrapped, type_width, is_bits_of, reading_of, literal_number, literal_bits}
use Rattle.ir_types.proofs.Widths.{halves, signed_low, signed_high, high_is}

-- bits are below 2^w
pub bits_below : (w : ℕ) (number : ℤ) → wrapped w number < 2 ^ w
unfolding wrapped
bits_below w (pos n) = mod_below n (2 ^ w) (pow_pos w)
bits_below w (negsuc n) = omega (arith, mod_below n (2 ^ w) (pow_pos w))

signed_pos : (w n : ℕ) → n < 2 ^ (w - 1) → is_signed_number w (pos n) ≡ true
signed_pos w n h = grind (arith, nat_tests)

signed_neg : (w n : ℕ) → suc n ≤ 2 ^ (w - 1) → is_signed_number w (negsuc n) ≡ true
signed_neg w n h = grind (arith, nat_tests)

pub pos_signed : (w n : ℕ) → is_signed_number w (pos n) ≡ true → n < 2 ^ (w - 1)
pos_signed w n h = grind (arith, nat_tests)

pub neg_signed : (w n : ℕ) → is_signed_number w (negsuc n) ≡ true → suc n ≤ 2 ^ (w - 1)
neg_signed w n h = grind (arith, nat_tests)

-- the signed number of w bits is in the signed range
pub signed_fits : (w v : ℕ) → 1 ≤ w → v < 2 ^ w → is_signed_number w (signed_of w v) ≡ true
signed_fits w v some h = ⊎_elim
    (λ (l : v < 2 ^ (w - 1)). rw (signed_low w v l) (signed_pos w v l))
    (λ (l : 2 ^ (w - 1) ≤ v). let two = halves w some in rw (high_is w v l h) (signed_neg w (2 ^ w - 1 - v) (omega arith)))
    (cases_lt v (2 ^ (w - 1)))

-- a number in the signed range is the signed number of its bits
pub signed_back : (w : ℕ) (number : ℤ) → 1 ≤ w → is_signed_number w number ≡ true → signed_of w (wrapped w number) ≡ number
unfolding wrapped
signed_back w (pos n) some h =
    let l = pos_signed w n h in
    let two = halves w some in
    let same : n % 2 ^ w ≡ n = mod-eq_of_lt (omega arith) in
    rw same (signed_low w n l)
signed_back w (negsuc n) some h =
    let l = neg_signed w n h in
    let two = halves w some in
    let same : n % 2 ^ w ≡ n = mod-eq_of_lt (omega arith) in
    rw same (signed_high w (2 ^ w - 1 - n) (omega arith) ∙ omega (arith, ints))

-- its bits are the original bits
pub bits_back : (w v : ℕ) → 1 ≤ w → v < 2 ^ w → wrapped w (signed_of w v) ≡ v
unfolding wrapped
bits_back w v some h = ⊎_elim
    (λ (l : v < 2 ^ (w - 1)). rw (signed_low w v l) (mod-eq_of_lt h))
    (λ (l : 2 ^ (w - 1) ≤ v).
    let same : (2 ^ w - 1 - v) % 2 ^ w ≡ 2 ^ w - 1 - v = mod-eq_of_lt (omega arith) in
    rw (high_is w v l h, same) (omega arith))
    (cases_lt v (2 ^ (w - 1)))

pub unsigned_back : (w v : ℕ) → v < 2 ^ w → wrapped w (pos v) ≡ v
unfolding wrapped
unsigned_back w v h = mod-eq_of_lt h

-- the same for a type
pub type_bits_back : (ty : TypeTerm) (bits : ℕ) → 1 ≤ type_width ty → is_bits_of ty bits ≡ true → wrapped (type_width ty) (reading_of ty bits) ≡ bits
type_bits_back (Integer Signless w) bits some h = bits_back w bits some (ltb-true bits (2 ^ w) h)
type_bits_back (Integer Signed w) bits some h = bits_back w bits some (ltb-true bits (2 ^ w) h)
type_bits_back (Integer Unsigned w) bits some h = unsigned_back w bits (ltb-true bits (2 ^ w) h)
type_bits_back Index bits some h = bits_back index_width bits some (ltb-true bits (2 ^ index_width) h)
type_bits_back (Function inputs outputs) bits some h = absurd (cc h)
type_bits_back (Memref dims elem) bits some h = absurd (cc h)
type_bits_back (OpaqueType text) bits some h = absurd (cc h)

not_below_zero : (n : ℕ) → int_lt (pos n) (pos 0) ≡ false
not_below_zero n = grind (arith, nat_tests)

unsigned_number : (w : ℕ) (number : ℤ) → is_unsigned w (int_lt number (pos 0)) (unsigned_abs number) ≡ true → pos (wrapped w number) ≡ number
unsigned_number w (pos n) h = let k : nat_lt n (2 ^ w) ≡ true = rw (not_below_zero n) at h in ap pos (unsigned_back w n (ltb-true n (2 ^ w) k))
unsigned_number w (negsuc n) h = let e : suc n ≡ 0 = (Decides-eqb (suc n) 0).0 h in absurd (omega arith)

pub type_number_back : (ty : TypeTerm) (number : ℤ) → 1 ≤ type_width ty → is_value_number ty number ≡ true → reading_of ty (wrapped (type_width ty) number) ≡ number
type_number_back (Integer Signless w) number some h = signed_back w number some h
type_number_back (Integer Signed w) number some h = signed_back w number some h
type_number_back (Integer Unsigned w) number some h = unsigned_number w number h
type_number_back Index number some h = signed_back index_width number some h
type_number_back (Function inputs outputs) number some h = absurd (cc h)
type_number_back (Memref dims elem) number some h = absurd (cc h)
type_number_back (OpaqueType text) number some h = absurd (cc h)

pub type_number_fits : (ty : TypeTerm) (bits : ℕ) → 1 ≤ type_width ty → is_bits_of ty bits ≡ true → is_value_number ty (reading_of ty bits) ≡ true
type_number_fits (Integer Signless w) bits some h = signed_fits w bits some (ltb-true bits (2 ^ w) h)
type_number_fits (Integer Signed w) bits some h = signed_fits w bits some (ltb-true bits (2 ^ w) h)
type_number_fits (Integer Unsigned w) bits some h = rw (not_below_zero bits) h
type_number_fits Index bits some h = signed_fits index_width bits some (ltb-true bits (2 ^ index_width) h)
type_number_fits (Function inputs outputs) bits some h = absurd (cc h)
type_number_fits (Memref dims elem) bits some h = absurd (cc h)
type_number_fits (OpaqueType text) bits some h = absurd (cc h)

-- a number in printed form is a literal
signless_literal : (w : ℕ) (negative : Bool) (m : ℕ) → 1 ≤ w → is_signed w negative m ≡ true → is_literal (Integer Signless w) negative m ≡ true
signless_literal w true m some h = h
signless_literal w false m some h = let two = halves w some in let l = ltb-true m (2 ^ (w - 1)) h in lt-ltb m (2 ^ w) (omega arith)

pub value_is_literal : (ty : TypeTerm) (negative : Bool) (m : ℕ) → 1 ≤ type_width ty → is_value ty negative m ≡ true → is_literal ty negative m ≡ true
value_is_literal (Integer Signless w) negative m some h = signless_literal w negative m some h
value_is_literal (Integer Signed w) negative m some h = h
value_is_literal (Integer Unsigned w) negative m some h = h
value_is_literal Index negative m some h = h
value_is_literal (Function inputs outputs) negative m some h = h
value_is_literal (Memref dims elem) negative m some h = h
value_is_literal (OpaqueType text) negative m some h = h

pub number_is : (number : ℤ) → literal_number (int_lt number (pos 0)) (unsigned_abs number) ≡ number
number_is (pos n) = rw (not_below_zero n) refl
number_is (negsuc n) = omega (arith, ints)

pub printed_is_literal : (ty : TypeTerm) (bits : ℕ) → 1 ≤ type_width ty → is_bits_of ty bits ≡ true → literal_bits ty (int_lt (reading_of ty bits) (pos 0)) (unsigned_abs (reading_of ty bits)) ≡ Some bits
printed_is_literal ty bits some h =
    let fits = value_is_literal ty (int_lt (reading_of ty bits) (pos 0)) (unsigned_abs (reading_of ty bits)) some (type_number_fits ty bits some h) in
    rw fits (ap Some (ap (wrapped (type_width ty)) (number_is (reading_of ty bits)) ∙ type_bits_back ty bits some h))

-- a literal's magnitude is below 2^w
pub literal_small : (sign : Sign) (w : ℕ) (negative : Bool) (m : ℕ) → 1 ≤ w → is_literal (Integer sign w) negative m ≡ true → m < 2 ^ w
literal_small sign w negative m some h = by sign negative h
  where
    two : 2 ^ w ≡ 2 ^ (w - 1) + 2 ^ (w - 1)
    two = halves w some

    by : (sign : Sign) (negative : Bool) → is_literal (Integer sign w) negative m ≡ true → m < 2 ^ w
    by Signless true h = omega (arith, two, pow_pos (w - 1), leb-true m (2 ^ (w - 1)) h)
    by Signless false h = ltb-true m (2 ^ w) h
    by Signed true h = omega (arith, two, pow_pos (w - 1), leb-true m (2 ^ (w - 1)) h)
    by Signed false h = omega (arith, two, ltb-true m (2 ^ (w - 1)) h)
    by Unsigned true h = let e : m ≡ 0 = (Decides-eqb m 0).0 h in rw e (pow_pos w)
    by Unsigned false h = ltb-true m (2 ^ w) h

-- the bits of a literal are bits of its type
is_below : (w : ℕ) (number : ℤ) (bits : ℕ) → Some (wrapped w number) ≡ Some bits → nat_lt bits (2 ^ w) ≡ true
is_below w number bits e = let f : wrapped w number ≡ bits = cc in lt-ltb bits (2 ^ w) (subst (λ b. b < 2 ^ w) f (bits_below w number))

literal_below : (w : ℕ) (number : ℤ) (t : Bool) (bits : ℕ) → (if t then Some (wrapped w number) else None) ≡ Some bits → nat_lt bits (2 ^ w) ≡ true
literal_below w number true bits e = is_below w number bits e
literal_below w number false bits e = absurd (cc e)

pub literal_is_bits : (ty : TypeTerm) (negative : Bool) (magnitude bits : ℕ) → literal_bits ty negative magnitude ≡ Some bits → is_bits_of ty bits ≡ true
literal_is_bits (Integer sign w) negative m bits e = literal_below w (literal_number negative m) (is_literal (Integer sign w) negative m) bits e
literal_is_bits Index negative m bits e = literal_below index_width (literal_number negative m) (is_literal Index negative m) bits e
literal_is_bits (Function inputs outputs) negative m bits e = absurd (cc e)
literal_is_bits (Memref dims elem) negative m bits e = absurd (cc e)
literal_is_bits (OpaqueType text) negative m bits e = absurd (cc e)

-- a number is the sum of its bits and a multiple of 2^w
split : (w : ℕ) (number : ℤ) → (k : ℤ) × (number ≡ pos (wrapped w number) +ℤ k *ℤ pos (2 ^ w))
unfolding wrapped
split w (pos n) = (pos (n / 2 ^ w), omega (arith, ints, div-add-mod' n (2 ^ w)))
split w (negsuc n) =
    let small = mod_below n (2 ^ w) (pow_pos w) in
    (negsuc (n / 2 ^ w), omega (arith, ints, div-add-mod' n (2 ^ w)))

differ : (s r : ℕ) (a b j k : ℤ) → a ≡ pos r +ℤ j *ℤ pos s → b ≡ pos r +ℤ k *ℤ pos s → a ≡ b +ℤ (j -ℤ k) *ℤ pos s
differ s r a b j k e f =
    let sum : up (j -ℤ k) + down j + up k ≡ down (j -ℤ k) + up j + down k = omega (arith, ints) in
    let times = ap (λ x. x * s) sum in
    omega (arith, same_in, same_out, sum_is_lem, product_is)

mod_same : (s : ℕ) (a b : ℤ) (j k : ℕ) → 0 < s → a +ℤ pos (j * s) ≡ b +ℤ pos (k * s) → int_rem_euclid a (pos s) ≡ int_rem_euclid b (pos s)
mod_same s a b j k some e =
    let t = down a + down b in
    let far : t * 1 ≤ t * s = mul-le-mul_left t some in
    let n = up a + (j + t) * s - down a in
    int_rem_euclid_is a (pos s) s (j + t) n some refl (omega (arith, ints)) ∙ sym (int_rem_euclid_is b (pos s) s (k + t) n some refl (omega (arith, ints)))

same_from : (w : ℕ) (a b : ℤ) → IsSameModulo (2 ^ w) a b → wrapped w a ≡ wrapped w b
unfolding wrapped
same_from w a b (pos m, e) = ap unsigned_abs (mod_same (2 ^ w) a b 0 m (pow_pos w) (omega (arith, ints)))
same_from w a b (negsuc m, e) = ap unsigned_abs (mod_same (2 ^ w) a b (suc m) 0 (pow_pos w) (omega (arith, ints)))

pub same_modulo : (w : ℕ) (a b : ℤ) → (wrapped w a ≡ wrapped w b) ↔ IsSameModulo (2 ^ w) a b
same_modulo w a b = (to, same_from w a b)
  where
    to : wrapped w a ≡ wrapped w b → IsSameModulo (2 ^ w) a b
    to e =
        let x = split w a in
        let y = split w b in
        (x.0 -ℤ y.0, differ (2 ^ w) (wrapped w b) a b x.0 y.0 (x.1 ∙ ap (λ r. pos r +ℤ x.0 *ℤ pos (2 ^ w)) e) y.1)

pub literals_same : (ty : TypeTerm) (n k : Bool) (a b : ℕ) → is_literal ty n a ≡ true → is_literal ty k b ≡ true → (literal_bits ty n a ≡ literal_bits ty k b) ↔ IsSameModulo (2 ^ type_width ty) (literal_number n a) (literal_number k b)
literals_same ty n k a b h g =
    let same = same_modulo (type_width ty) (literal_number n a) (literal_number k b) in
    let x : literal_bits ty n a ≡ Some (wrapped (type_width ty) (literal_number n a)) = rw h refl in
    let y : literal_bits ty k b ≡ Some (wrapped (type_width ty) (literal_number k b)) = rw g refl in (
      λ e. same.0 (some_same _ _ (sym x ∙ e ∙ y)),
      λ e. x ∙ ap Some (same.1 e) ∙ sym y,
    )
  where
    some_same : (c d : ℕ) → Some c ≡ Some d → c ≡ d
    some_same c d e = cc
