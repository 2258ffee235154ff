-- Shifts of values by literals.
use Rattle.std.proofs.Common.{pos, negsuc, ◌≡◌, ◌∙◌, ℕ, suc, ◌+◌, ◌-◌, ◌*◌, ◌/◌, ◌%◌, ◌^◌, ◌<◌, ◌≤◌, ◌==◌, ◌⊎◌, inl, inr, ⊎_elim, List, true, false, not, nat_lt, if◌then◌else◌, bit_xor, Option, Some, None, refl, sym, ap, arith}
use Rattle.std.specs.Prelude.{int_lt}
use Rattle.std.specs.Int.{int_shr}
use Rattle.std.proofs.lemmas.Bool.{cases_lt}
use Rattle.std.proofs.lemmas.Bool.Decides.{nat_tests}
use Rattle.std.proofs.lemmas.Int.{ints}
use Rattle.std.proofs.lemmas.Nat.{and_mask, mod-mul-add, pow-add, pow_pos}
use Rattle.std.specs.Int.Bits.{xor_add_and}
use Rattle.std.proofs.Math.Nat.{div-le_self, mod-eq_of_lt}
use Rattle.std.proofs.Math.Pow.{pow-lt}
use Rattle.ir_types.specs.Readings.{literal_number, signed_of, wrapped}
use Rattle.ir_types.proofs.ReadingLaws.{unsigned_back}
use Rattle.ir_types.proofs.Widths.{literal_high, literal_low, signed_low}
use Rattle.dialects_int.specs.declared.operations.Arithmetic.{Arithmetic}
use Rattle.dialects_int.specs.declared.operations.Arithmetic.TheVariants as op
use Rattle.dialects_int.specs.declared.operations.Predicate.TheVariants as asks
use Rattle.dialects_int.specs.Arithmetic.{choice_of, comparison_of, left_shift_of, right_shift_of, signed_right_shift_of, truth, value_of}
use Rattle.dialects_int.proofs.Quotients.{signed_cases}
use Rattle.user_patterns_check.specs.Outcomes.{divides, is_signed_remainder}
use Rattle.width_claims.specs.declared.form.Form.TheVariants as form
use Rattle.width_claims.specs.declared.form.Expr.{Expr}
use Rattle.width_claims.specs.PatternOpValues.{at}
use Rattle.user_patterns_instructions.specs.Expressions.{Made, exchanged, push_expr, right_of, right_signed, shifted}
use Rattle.user_patterns_instructions.proofs.PatternOps.{Base, Is, Makes, base_on, makes_next, makes_same, same}
use Rattle.user_patterns_instructions.proofs.Ranges.{value_below}
use Rattle.user_patterns_instructions.proofs.Forms.{put_less_signed, put_negative, put_number, put_quotient, put_select, put_xor}
use Rattle.user_patterns_instructions.proofs.Multiples.{times_makes}

-- ---- numbers

-- 2^n is 0 modulo 2^w if n is w or more
pub far_is : (w n : ℕ) → (0 == wrapped w (literal_number false (2 ^ n))) ≡ not (nat_lt n w)
unfolding wrapped
far_is w n = ⊎_elim within past (cases_lt n w)
  where
    apart : (a : ℕ) → 0 < a → (0 == a) ≡ false
    apart a l = grind (arith, nat_tests)

    less : (a b : ℕ) → a < b → nat_lt a b ≡ true
    less a b l = grind (arith, nat_tests)

    not_less : (a b : ℕ) → b ≤ a → nat_lt a b ≡ false
    not_less a b l = grind (arith, nat_tests)

    within : n < w → (0 == 2 ^ n % 2 ^ w) ≡ not (nat_lt n w)
    within l = ap (λ m. 0 == m) (mod-eq_of_lt (pow-lt l)) ∙ apart (2 ^ n) (pow_pos n) ∙ sym (ap not (less n w l))

    past : w ≤ n → (0 == 2 ^ n % 2 ^ w) ≡ not (nat_lt n w)
    past l =
        let e : (n - w) + w ≡ n = omega (arith, l) in
        let p : 2 ^ n ≡ 2 ^ (n - w) * 2 ^ w + 0 = ap (λ m. 2 ^ m) (sym e) ∙ pow-add 2 (n - w) w ∙ simple (2 ^ (n - w) * 2 ^ w) in
        ap (λ m. 0 == m) (ap (λ m. m % 2 ^ w) p ∙ mod-mul-add (2 ^ (n - w)) (2 ^ w) 0 (pow_pos w)) ∙ sym (ap not (not_less n w l))
      where
        simple : (m : ℕ) → m ≡ m + 0
        simple m = omega arith

-- the bits of a number exchanged
exchanged_is : (w a : ℕ) → a < 2 ^ w → bit_xor a (2 ^ w - 1) ≡ 2 ^ w - 1 - a
exchanged_is w a l =
    let x = xor_add_and a (2 ^ w - 1) in
    let both = and_mask a w ∙ mod-eq_of_lt l in
    omega (arith, x, both, l)

ones_are : (w : ℕ) → 1 < 2 ^ w → wrapped w (literal_number true 1) ≡ 2 ^ w - 1
ones_are w l = sym (literal_high w 1 (omega arith) l) ∙ omega arith

whole : (n : ℕ) → suc (2 ^ n - 1) ≡ 2 ^ n
whole n = let p = pow_pos n in omega (arith, p)

module _ (w a n : ℕ) where
  abbrev ones : ℕ
  ones = wrapped w (literal_number true 1)

  abbrev first : ℕ → ℕ
  first c = choice_of c (bit_xor a ones) a

  abbrev moved : ℕ → ℕ
  moved c = first c / suc (2 ^ n - 1)

  abbrev last : ℕ → ℕ
  last c = choice_of c (bit_xor (moved c) ones) (moved c)

  -- exchanged, moved and exchanged again if the sign is set
  signed_shift : 1 < 2 ^ w → a < 2 ^ w → last (truth (comparison_of w asks.SignedLess a 0)) ≡ wrapped w (int_shr (signed_of w a) n)
  unfolding comparison_of
  signed_shift l below = go (signed_cases w a below)
    where
      zero_is : signed_of w 0 ≡ pos 0
      zero_is = signed_low w 0 (pow_pos (w - 1))

      not_negative : (m : ℕ) → int_lt (pos m) (pos 0) ≡ false
      not_negative m = grind (arith, nat_tests)

      negative : (m : ℕ) → int_lt (negsuc m) (pos 0) ≡ true
      negative m = refl

      minus : (m : ℕ) → literal_number true (suc m) ≡ negsuc m
      minus m = omega (arith, ints)

      go : ((a < 2 ^ (w - 1)) × (signed_of w a ≡ pos a)) ⊎ ((2 ^ (w - 1) ≤ a) × (signed_of w a ≡ negsuc (2 ^ w - 1 - a)))
          → last (truth (int_lt (signed_of w a) (signed_of w 0))) ≡ wrapped w (int_shr (signed_of w a) n)
      go (inl x) =
          let small = div-le_self a (2 ^ n) in
          let sign : int_lt (signed_of w a) (signed_of w 0) ≡ false = (λ i. int_lt (x.1 i) (zero_is i)) ∙ not_negative a in
          ap (λ b. last (truth b)) sign ∙ ap (λ d. a / d) (whole n) ∙ sym (unsigned_back w (a / 2 ^ n) (omega (arith, small, below))) ∙ sym (ap (λ z. wrapped w (int_shr z n)) (x.1))
      go (inr x) =
          let m = 2 ^ w - 1 - a in
          let q = m / 2 ^ n in
          let small = div-le_self m (2 ^ n) in
          let low : q < 2 ^ w = omega (arith, small, below) in
          let half = pow_pos (w - 1) in
          let high = x.0 in
          let next : suc q < 2 ^ w = omega (arith, small, below, half, high) in
          let sign : int_lt (signed_of w a) (signed_of w 0) ≡ true = (λ i. int_lt (x.1 i) (zero_is i)) ∙ negative m in
          let exchange : bit_xor a ones ≡ m = ap (bit_xor a) (ones_are w l) ∙ exchanged_is w a below in
          let divided : bit_xor a ones / suc (2 ^ n - 1) ≡ q = (λ i. exchange i / whole n i) in
          let back : bit_xor q ones ≡ 2 ^ w - 1 - q = ap (bit_xor q) (ones_are w l) ∙ exchanged_is w q low in
          ap (λ b. last (truth b)) sign ∙ ap (λ d. bit_xor d ones) divided ∙ back ∙ top q next ∙ ap (wrapped w) (minus q) ∙ sym (ap (λ z. wrapped w (int_shr z n)) (x.1))
        where
          top : (q : ℕ) → suc q < 2 ^ w → 2 ^ w - 1 - q ≡ wrapped w (literal_number true (suc q))
          top q h = let less_one : 2 ^ w - 1 - q ≡ 2 ^ w - 1 - (suc q - 1) = omega arith in less_one ∙ literal_high w (suc q) (omega arith) h

-- ---- expressions

module _ (W : ℕ) (vs ws : List ℕ) where
  module _ (t a n : ℕ) (ps : List Expr) where
    -- a shift has a value if the amount is less than the width
    pub record Shifts (o : Arithmetic) (m : Made) : Type 0 where
      pub total : divides o ≡ false
      pub remains : is_signed_remainder o ≡ false
      pub value : ℕ
      pub value_is : value_of o (at ws t) a n ≡ (if nat_lt n (at ws t) then Some value else None)
      pub makes : Makes W vs ws ps m t value

    abbrev pub ShiftsSome : Arithmetic → Option Made → Type 0
    ShiftsSome o None = Unit {0}
    ShiftsSome o (Some m) = Shifts o m

  module _ (t n : ℕ) where
    right_makes : (ps : List Expr) (m : Made) (a : ℕ) → Base W vs ws ps → Makes W vs ws ps m t a → Makes W vs ws ps (right_of n t m) t (a / suc (2 ^ n - 1))
    right_makes ps m a b h =
        makes_next W vs ws ps m (right_of n t m) t t a (a / suc (2 ^ n - 1)) h (put_quotient W vs ws m.0 (base_on W vs ws ps m.0 b h.grown) m.1 t (2 ^ n - 1) a h.is)

    module _ (c z s ones : ℕ) where
      exchanged_makes : (ps : List Expr) (m : Made) (x : ℕ) → Base W vs ws ps → Is W vs ws ps c 0 s → Is W vs ws ps z t ones → Makes W vs ws ps m t x → Makes W vs ws ps (exchanged c z t m) t (choice_of s (bit_xor x ones) x)
      exchanged_makes ps m x b sign all h =
          let d = base_on W vs ws ps m.0 b h.grown in
          let e = put_xor W vs ws m.0 d m.1 z t x ones h.is (h.grown.kept z t ones all) in
          let y = push_expr m.0 t (form.ExclusiveOr m.1 z) in
          let f = base_on W vs ws m.0 y.0 d e.grown in
          let last = put_select W vs ws y.0 f y.1 m.1 t (bit_xor x ones) x e.is (e.grown.kept m.1 t x h.is) c 0 s (e.grown.kept c 0 s (h.grown.kept c 0 s sign)) in
          makes_next W vs ws ps m (exchanged c z t m) t t x (choice_of s (bit_xor x ones) x) h (makes_next W vs ws m.0 y (exchanged c z t m) t t (bit_xor x ones) (choice_of s (bit_xor x ones) x) e last)

    module _ (i a : ℕ) (ps : List Expr) (b : Base W vs ws ps) (is : Is W vs ws ps i t a) where
      abbrev w : ℕ
      w = at ws t

      abbrev all_ones : ℕ
      all_ones = wrapped w (literal_number true 1)

      abbrev sign : ℕ
      sign = truth (comparison_of w asks.SignedLess a 0)

      one_below : 1 < 2 ^ w
      one_below = let h = is.low.0 in let g = pow-lt {i = 0} {j = w} h in omega (arith, g)

      signed_makes : Makes W vs ws ps (right_signed n t i ps) t (wrapped w (int_shr (signed_of w a) n))
      signed_makes =
          let p = pow_pos w in
          let zero = push_expr ps t (form.Literal 0) in
          let zero_made = makes_same W vs ws ps zero t (wrapped w (literal_number false 0)) 0 (sym (literal_low w 0 p)) (put_number W vs ws ps b t 0 is.low) in
          let b1 = base_on W vs ws ps zero.0 b zero_made.grown in
          let ones = push_expr zero.0 t (form.Negative 1) in
          let ones_made = put_negative W vs ws zero.0 b1 t 1 is.low one_below in
          let b2 = base_on W vs ws zero.0 ones.0 b1 ones_made.grown in
          let here = ones_made.grown.kept i t a (zero_made.grown.kept i t a is) in
          let less = push_expr ones.0 0 (form.LessSigned t i zero.1) in
          let less_made = put_less_signed W vs ws ones.0 b2 i zero.1 t a 0 here (ones_made.grown.kept zero.1 t 0 zero_made.is) in
          let b3 = base_on W vs ws ones.0 less.0 b2 less_made.grown in
          let all = less_made.grown.kept ones.1 t all_ones ones_made.is in
          let start : Makes W vs ws less.0 (less.0, i) t a = record { grown = same W vs ws less.0 b3.right; is = less_made.grown.kept i t a here } in
          let first_made = exchanged_makes less.1 ones.1 sign all_ones less.0 (less.0, i) a b3 less_made.is all start in
          let e1 = exchanged less.1 ones.1 t (less.0, i) in
          let v1 = choice_of sign (bit_xor a all_ones) a in
          let moved_made = right_makes less.0 e1 v1 b3 first_made in
          let v2 = v1 / suc (2 ^ n - 1) in
          let last_made = exchanged_makes less.1 ones.1 sign all_ones less.0 (right_of n t e1) v2 b3 less_made.is all moved_made in
          let v3 = choice_of sign (bit_xor v2 all_ones) v2 in
          let r = right_signed n t i ps in
          let below = value_below W vs ws ps i t a b.right is in
          makes_same W vs ws ps r t v3 (wrapped w (int_shr (signed_of w a) n)) (signed_shift w a n one_below below)
          (makes_next W vs ws ps zero r t t 0 v3 zero_made (makes_next W vs ws zero.0 ones r t t all_ones v3 ones_made (makes_next W vs ws ones.0 less r 0 t sign v3 less_made last_made)))

      pub shifts : (o : Arithmetic) → ShiftsSome t a n ps o (shifted o n t i ps)
      unfolding left_shift_of right_shift_of signed_right_shift_of
      shifts op.ShiftLeft =
          record { total = refl; remains = refl; value = (a * 2 ^ n) % 2 ^ w; value_is = refl; makes = times_makes W vs ws t i a (2 ^ n) (2 ^ n) ps (omega arith) b is }
      shifts op.ShiftRightUnsigned =
          record {
            total = refl;
            remains = refl;
            value = a / suc (2 ^ n - 1);
            value_is = ap (λ m. if nat_lt n w then Some (a / m) else None) (sym (whole n));
            makes = put_quotient W vs ws ps b i t (2 ^ n - 1) a is;
          }
      shifts op.ShiftRightSigned = record { total = refl; remains = refl; value = wrapped w (int_shr (signed_of w a) n); value_is = refl; makes = signed_makes }
      shifts op.Multiply = tt
      shifts op.DivideUnsigned = tt
      shifts op.RemainderUnsigned = tt
      shifts op.Add = tt
      shifts op.Subtract = tt
      shifts op.And = tt
      shifts op.Or = tt
      shifts op.ExclusiveOr = tt
      shifts op.MaximumSigned = tt
      shifts op.MaximumUnsigned = tt
      shifts op.MinimumSigned = tt
      shifts op.MinimumUnsigned = tt
      shifts op.DivideSigned = tt
      shifts op.RemainderSigned = tt
