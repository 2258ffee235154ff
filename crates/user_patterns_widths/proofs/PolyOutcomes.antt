-- The outcomes of sums, differences and products of values of one kind, if the values are those of polynomials.
use Rattle.std.proofs.Common.{◌≡◌, ℕ, ◌+◌, ◌-◌, ◌*◌, ◌%◌, ◌^◌, ◌<◌, ◌≤◌, pos, ◌-ℤ◌, ◌++◌, Bool, true, false, ◌&&◌, if◌then◌else◌, Option, Some, None, length, sym, ap, refl, ◌∙◌, subst, arith, ltb-true, lt-ltb, leb-true}
use Rattle.std.specs.Prelude.{nat_le, nat_lt, unsigned_abs}
use Rattle.std.specs.List.{list_all}
use Rattle.std.proofs.lemmas.Bool.{and_parts}
use Rattle.std.proofs.lemmas.Int.{ints, int_rem_euclid_is}
use Rattle.std.proofs.lemmas.Nat.{mod_below, pow_pos}
use Rattle.std.proofs.lemmas.Option.{none-some, same_Some}
use Rattle.std.proofs.Math.Nat.{mod-mod, mul-le-mul_left}
use Rattle.ir_types.specs.declared.bits.BitsKind.{BitsKind}
use Rattle.ir_types.specs.Bits.{is_bits, width_of}
use Rattle.ir_types.specs.Readings.{literal_number, wrapped}
use Rattle.ir_types.specs.Reasons.{is_width}
use Rattle.dialects_int.specs.declared.operations.Arithmetic.{Arithmetic}
use Rattle.dialects_int.specs.declared.operations.Arithmetic.TheVariants as op
use Rattle.dialects_int.specs.Arithmetic.{product_of, sum_of, value_of}
use Rattle.dialects_int.proofs.KnownOperands.{same_itself}
use Rattle.dialects_int.proofs.Widths.{difference_is}
use Rattle.user_patterns_check.specs.Outcomes.{Outcome, checked, pair_outcome}
use Rattle.user_patterns_widths.specs.Polynomials.{Polynomial, coefficient, if_small, is_low, literal_coefficient, most_terms, negated, product}
use Rattle.user_patterns_widths.specs.AllWidths.{formal_pair}
use Rattle.user_patterns_widths.proofs.PolyModulo.{IsSame, itself_none, multiple_none, others_same, products_same, reduced, sums_same, whole_none}
use Rattle.user_patterns_widths.proofs.PolyValues.{AreLow, coefficient_low, negated_low, negated_value, product_low, product_value, sum_low, sum_value, total}

pub small : (p q : Polynomial) → if_small p ≡ Some q → p ≡ q
small p q e = go (nat_le (length p) most_terms && list_all is_low p) e
  where
    go : (b : Bool) → (if b then Some p else None) ≡ Some q → p ≡ q
    go true e = same_Some p q e
    go false e = absurd (none-some q e)

-- ---- literals

-- a negative number, wrapped to w bits
wrapped_negative : (w m : ℕ) → 1 ≤ 2 ^ w → wrapped w (pos 0 -ℤ pos m) ≡ (m * 2 ^ w - m) % 2 ^ w
unfolding wrapped
wrapped_negative w m some =
    let far : m * 1 ≤ m * 2 ^ w = mul-le-mul_left m some in
    ap unsigned_abs (int_rem_euclid_is (pos 0 -ℤ pos m) (pos (2 ^ w)) (2 ^ w) m (m * 2 ^ w - m) (pow_pos w) refl (omega (arith, ints)))

pub literal_same : (w : ℕ) → w ≤ 128 → (negative : Bool) (m : ℕ) → IsSame (2 ^ w) (wrapped w (literal_number negative m)) (literal_coefficient negative m)
unfolding wrapped
literal_same w low false m = mod-mod m (2 ^ w) ∙ sym (reduced w m low)
literal_same w low true m =
    let some = pow_pos w in
    let far : m * 1 ≤ m * 2 ^ w = mul-le-mul_left m some in
    let c = coefficient m in
    let small : c < 2 ^ 128 = coefficient_low m in
    let n = m * 2 ^ w - m in
    let first : n + m ≡ m * 2 ^ w = omega (arith, far) in
    let second : (2 ^ 128 - c) + c ≡ 2 ^ 128 = omega (arith, small) in
    let one : IsSame (2 ^ w) (n + m) 0 = ap (λ n. n % 2 ^ w) first ∙ multiple_none (2 ^ w) m in
    let two : IsSame (2 ^ w) (coefficient (2 ^ 128 - c) + m) 0 =
    sums_same (2 ^ w) (coefficient (2 ^ 128 - c)) (2 ^ 128 - c) m c (reduced w (2 ^ 128 - c) low) (sym (reduced w m low))
    ∙ ap (λ n. n % 2 ^ w) second ∙ whole_none w low in
    ap (λ n. n % 2 ^ w) (wrapped_negative w m some) ∙ mod-mod n (2 ^ w) ∙ others_same (2 ^ w) n (coefficient (2 ^ 128 - c)) m one two

-- ---- values of polynomials

module _ (k : BitsKind) where
  abbrev w : ℕ
  w = width_of k

  pub is_wide : (v : ℕ) → is_bits k v ≡ true → w ≤ 128
  is_wide v e = leb-true w 128 (and_parts (nat_lt 0 w) (nat_le w 128) (and_parts (is_width w) (nat_lt v (2 ^ w)) e).0).1

  pub is_below : (v : ℕ) → is_bits k v ≡ true → v < 2 ^ w
  is_below v e = ltb-true v (2 ^ w) (and_parts (is_width w) (nat_lt v (2 ^ w)) e).1

  pub other_bits : (v n : ℕ) → is_bits k v ≡ true → n < 2 ^ w → is_bits k n ≡ true
  other_bits v n e l = rw ((and_parts (is_width w) (nat_lt v (2 ^ w)) e).0) (lt-ltb n (2 ^ w) l)

  pub pair_known : (o : Arithmetic) (a b : ℕ) → pair_outcome o (Some (k, a)) (Some (k, b)) ≡ checked o k b (value_of o w a b)
  pair_known o a b = rw (same_itself k) refl

  module _ (V : ℕ → ℕ) where
    pub record Stands (p : Polynomial) (x : Outcome) : Type 0 where
      pub value : ℕ
      pub is : x ≡ Some (k, value)
      pub fits : is_bits k value ≡ true
      pub low : AreLow p
      pub same : IsSame (2 ^ w) value (total V p)

    pub record Gives (p : Polynomial) (r : Option Outcome) : Type 0 where
      pub outcome : Outcome
      pub is : r ≡ Some outcome
      pub stands : Stands p outcome

    reduced_stands : (p : Polynomial) (v n : ℕ) → is_bits k v ≡ true → AreLow p → IsSame (2 ^ w) n (total V p) → Stands p (Some (k, n % 2 ^ w))
    reduced_stands p v n e l s = record {
      value = n % 2 ^ w;
      is = refl;
      fits = other_bits v (n % 2 ^ w) e (mod_below n (2 ^ w) (pow_pos w));
      low = l;
      same = mod-mod n (2 ^ w) ∙ s;
    }

    reduced_gives : (o : Arithmetic) (p : Polynomial) (x y : Outcome) (a b n : ℕ) → x ≡ Some (k, a) → y ≡ Some (k, b) → value_of o w a b ≡ Some (n % 2 ^ w)
        → is_bits k a ≡ true → AreLow p → IsSame (2 ^ w) n (total V p) → Gives p (pair_outcome o x y)
    reduced_gives o p x y a b n ex ey ev e l s = record {
      outcome = Some (k, n % 2 ^ w);
      is = (λ i. pair_outcome o (ex i) (ey i)) ∙ pair_known o a b ∙ ap (checked o k b) ev;
      stands = reduced_stands p a n e l s;
    }

    sum_gives : (p q : Polynomial) (x y : Outcome) → Stands p x → Stands q y → Gives (p ++ q) (pair_outcome op.Add x y)
    unfolding sum_of
    sum_gives p q x y s t =
        reduced_gives op.Add (p ++ q) x y s.value t.value (s.value + t.value) s.is t.is refl s.fits (sum_low p q s.low t.low)
        (sums_same (2 ^ w) s.value (total V p) t.value (total V q) s.same t.same ∙ ap (λ n. n % 2 ^ w) (sym (sum_value V p q)))

    product_gives : (p q : Polynomial) (x y : Outcome) → Stands p x → Stands q y → Gives (product p q) (pair_outcome op.Multiply x y)
    unfolding product_of
    product_gives p q x y s t =
        reduced_gives op.Multiply (product p q) x y s.value t.value (s.value * t.value) s.is t.is refl s.fits (product_low p q)
        (products_same (2 ^ w) s.value (total V p) t.value (total V q) s.same t.same ∙ sym (product_value V w (is_wide s.value s.fits) p q))

    difference_gives : (p q : Polynomial) (x y : Outcome) → Stands p x → Stands q y → Gives (p ++ negated q) (pair_outcome op.Subtract x y)
    difference_gives p q x y s t =
        let low = is_wide t.value t.fits in
        let below = is_below t.value t.fits in
        let n = 2 ^ w - t.value in
        let back : n + t.value ≡ 2 ^ w = omega arith in
        let none : IsSame (2 ^ w) (n + t.value) 0 = ap (λ n. n % 2 ^ w) back ∙ itself_none (2 ^ w) in
        let minus : IsSame (2 ^ w) n (total V (negated q)) = others_same (2 ^ w) n (total V (negated q)) t.value none
        (sums_same (2 ^ w) (total V (negated q)) (total V (negated q)) t.value (total V q) refl t.same ∙ negated_value V w low q t.low) in
        reduced_gives op.Subtract (p ++ negated q) x y s.value t.value (s.value + n) s.is t.is (ap Some (difference_is w s.value t.value (omega arith))) s.fits (sum_low p (negated q) s.low (negated_low q))
        (sums_same (2 ^ w) s.value (total V p) n (total V (negated q)) s.same minus ∙ ap (λ n. n % 2 ^ w) (sym (sum_value V p (negated q))))

    small_gives : (p q : Polynomial) (r : Option Outcome) → if_small p ≡ Some q → Gives p r → Gives q r
    small_gives p q r e g = subst (λ p. Gives p r) (small p q e) g

    pub pair_gives : (o : Arithmetic) (p q r : Polynomial) (x y : Outcome) → formal_pair o p q ≡ Some r → Stands p x → Stands q y → Gives r (pair_outcome o x y)
    pair_gives op.Add p q r x y e s t = small_gives (p ++ q) r (pair_outcome op.Add x y) e (sum_gives p q x y s t)
    pair_gives op.Subtract p q r x y e s t = small_gives (p ++ negated q) r (pair_outcome op.Subtract x y) e (difference_gives p q x y s t)
    pair_gives op.Multiply p q r x y e s t = small_gives (product p q) r (pair_outcome op.Multiply x y) e (product_gives p q x y s t)
    pair_gives _ p q r x y e s t = absurd (none-some r e)
