-- The results of a pattern's steps are the values of their polynomials.
use Rattle.std.proofs.Common.{◌≡◌, ℕ, ◌<◌, ◌^◌, ◌%◌, List, [], ◌∷◌, ◌++◌, length, Bool, true, false, true≢false, if◌then◌else◌, Option, Some, None, slice_get, sym, ap, refl, ◌∙◌, subst, arith}
use Rattle.std.specs.Prelude.{bit_and, bit_or, bit_xor, is_some}
use Rattle.std.specs.Int.Bits.{and_self}
use Rattle.std.proofs.lemmas.Bool.{eqb-true}
use Rattle.std.proofs.lemmas.Nat.{and_le_l, or_lt, xor_lt}
use Rattle.std.proofs.lemmas.Option.{none-some, same_Some}
use Rattle.ir_types.specs.declared.bits.BitsKind.{BitsKind}
use Rattle.ir_types.specs.declared.bits.BitsKind.TheVariants as kind
use Rattle.ir_types.specs.Bits.{is_bits, type_of, width_of}
use Rattle.ir_types.specs.Readings.{literal_bits, literal_number, wrapped}
use Rattle.ir_types.specs.Ranges.{is_literal}
use Rattle.ir_types.specs.Reasons.{is_width}
use Rattle.dialects_int.specs.declared.operations.Arithmetic.{Arithmetic}
use Rattle.dialects_int.specs.declared.operations.Arithmetic.TheVariants as op
use Rattle.dialects_int.specs.Arithmetic.{value_of}
use Rattle.user_patterns_check.specs.Outcomes.{Outcome, constant_outcome, given, checked, log_of, log_outcome, pair_outcome, step_of}
use Rattle.user_patterns_check.proofs.Logs.{log_below, lt_power}
use Rattle.user_patterns_data.specs.declared.pattern.Expression.{Expression}
use Rattle.user_patterns_data.specs.declared.pattern.Expression.TheVariants as form
use Rattle.user_patterns_data.specs.declared.pattern.Literal.{Literal}
use Rattle.user_patterns_data.specs.declared.pattern.ExtraConstant.{ExtraConstant}
use Rattle.user_patterns_data.specs.declared.pattern.ExtraConstant.TheVariants as extra
use Rattle.user_patterns_data.specs.declared.pattern.ConstantExpression.{ConstantExpression}
use Rattle.user_patterns_data.specs.declared.pattern.ConstantExpression.TheVariants as number
use Rattle.user_patterns_data.specs.declared.pattern.NewValue.{NewValue}
use Rattle.user_patterns_data.specs.declared.pattern.NewValue.TheVariants as new
use Rattle.user_patterns_data.specs.Fitting.{again_step, form_step, extra_fits, extra_step, is_literal_of, kind_at, new_step, number_fits, number_step, or_zero, written_step}
use Rattle.user_patterns_widths.specs.Polynomials.{Polynomial, literal_coefficient, value_at}
use Rattle.user_patterns_widths.specs.Polynomials as polynomials
use Rattle.user_patterns_widths.specs.AllWidths.{Formal, formal_at, formal_form, formal_extra, formal_literal, formal_new, formal_next, formal_number, formal_of, formal_pair, extra_has, is_bitwise, literal_has, number_has}
use Rattle.user_patterns_widths.proofs.PolyValues.{number_low, number_value, place_value, value_low}
use Rattle.user_patterns_widths.proofs.PolyOutcomes.{Gives, Stands, is_below, is_wide, literal_same, other_bits, pair_gives, pair_known}
use Rattle.user_patterns_widths.proofs.PolyPlaces.{AllStand, IsPreceding, StandsAt, found_at, given_some, last_number, number_at, stand_long}

-- ---- both sides

module _ (k : BitsKind) (V : ℕ → ℕ) (fs : Formal) (xs : List Outcome) (stand : AllStand k V fs xs) where
  given_both : (f : Outcome → Outcome → Option Outcome) (i j : ℕ) (x y : Outcome) → slice_get xs i ≡ Some x → slice_get xs j ≡ Some y
      → given (slice_get xs i) (λ x. given (slice_get xs j) (λ y. f x y)) ≡ f x y
  given_both f i j x y e d = λ z. given (e z) (λ x. given (d z) (λ y. f x y))

  pub of_gives : (o : Arithmetic) (i j : ℕ) (p : Polynomial) → formal_of o i j fs ≡ Some p → Gives k V p (given (slice_get xs i) (λ x. given (slice_get xs j) (λ y. pair_outcome o x y)))
  of_gives o i j p e =
      let a = given_some (formal_at i fs) (λ p. given (formal_at j fs) (λ q. formal_pair o p q)) p e in
      let b = given_some (formal_at j fs) (λ q. formal_pair o a.0 q) p a.2 in
      let x = found_at k V fs xs i a.0 stand a.1 in
      let y = found_at k V fs xs j b.0 stand b.1 in
      subst (Gives k V p) (sym (given_both (pair_outcome o) i j x.outcome y.outcome x.is y.is)) (pair_gives k V o a.0 b.0 p x.outcome y.outcome b.2 x.stands y.stands)

  pub again_gives : (i : ℕ) (p : Polynomial) → formal_at i fs ≡ Some p → Gives k V p (step_of (again_step i) xs)
  again_gives i p e =
      let x = found_at k V fs xs i p stand e in
      let s = x.stands in
      record {
        outcome = x.outcome;
        is =
            given_both (pair_outcome op.And) i i x.outcome x.outcome x.is x.is
            ∙ (λ z. pair_outcome op.And (s.is z) (s.is z)) ∙ pair_known k op.And s.value s.value
            ∙ ap (λ n. Some (Some (k, n))) (and_self s.value) ∙ ap (λ o. Some o) (sym s.is);
        stands = s;
      }

  pub form_gives : (j : BitsKind) (f : Expression) (p : Polynomial) → formal_form f fs ≡ Some p → Gives k V p (step_of (form_step j f) xs)
  form_gives j (form.Binary o i l) p e = of_gives o i l p e
  form_gives j _ p e = absurd (none-some p e)

  pub new_gives : (ks : List BitsKind) (n : NewValue) (p : Polynomial) → formal_new n fs ≡ Some p → Gives k V p (step_of (new_step ks n) xs)
  new_gives ks (new.Operation o) p e = form_gives (kind_at ks o.ty) o.form p e
  new_gives ks (new.Constant i t) p e = again_gives i p e

  -- the result of a step has the value of its polynomial
  pub gave : (p : Polynomial) (r : Option Outcome) (x : Outcome) → r ≡ Some x → Gives k V p r → Stands k V p x
  gave p r x e g = subst (Stands k V p) (same_Some g.outcome x (sym g.is ∙ e)) g.stands

  pub gave_at : (f : Option Polynomial) (r : Option Outcome) (x : Outcome) → r ≡ Some x → ((p : Polynomial) → f ≡ Some p → Gives k V p r) → StandsAt k V f x
  gave_at None r x e g = tt
  gave_at (Some p) r x e g = gave p r x e (g p refl)

-- ---- numbers

pub record IsKnown (k : BitsKind) (x : Outcome) : Type 0 where
  pub value : ℕ
  pub is : x ≡ Some (k, value)
  pub fits : is_bits k value ≡ true

pub constant_known : (k : BitsKind) (v : ℕ) (x : Outcome) → constant_outcome k v ≡ Some x → (x ≡ Some (k, v)) × (is_bits k v ≡ true)
constant_known k v x e = go (is_bits k v) e
  where
    go : (b : Bool) → given (if b then Some (k, v) else None) (λ b. Some (Some b)) ≡ Some x → (x ≡ Some (k, v)) × (b ≡ true)
    go true e = (sym (same_Some (Some (k, v)) x e), refl)
    go false e = absurd (none-some x e)

-- the bits of a literal
abbrev literal_with : BitsKind → Bool → ℕ → Option ℕ
literal_with k negative m = if is_width (width_of k) then literal_bits (type_of k) negative m else None

if_is : (b : Bool) (n v : ℕ) → (if b then Some n else None) ≡ Some v → n ≡ v
if_is true n v e = same_Some n v e
if_is false n v e = absurd (none-some v e)

literal_wrapped : (k : BitsKind) (negative : Bool) (m v : ℕ) → literal_bits (type_of k) negative m ≡ Some v → wrapped (width_of k) (literal_number negative m) ≡ v
literal_wrapped (kind.Int w) negative m v e = if_is (is_literal (type_of (kind.Int w)) negative m) (wrapped w (literal_number negative m)) v e
literal_wrapped kind.Index negative m v e = if_is (is_literal (type_of kind.Index) negative m) (wrapped (width_of kind.Index) (literal_number negative m)) v e

literal_known : (k : BitsKind) (negative : Bool) (m : ℕ) → is_some (literal_with k negative m) ≡ true → wrapped (width_of k) (literal_number negative m) ≡ or_zero (literal_with k negative m)
literal_known k negative m e = go (is_width (width_of k)) (literal_bits (type_of k) negative m) refl e
  where
    go : (b : Bool) (r : Option ℕ) → literal_bits (type_of k) negative m ≡ r → is_some (if b then r else None) ≡ true → wrapped (width_of k) (literal_number negative m) ≡ or_zero (if b then r else None)
    go true (Some v) is e = literal_wrapped k negative m v is
    go true None is e = absurd (true≢false (sym e))
    go false r is e = absurd (true≢false (sym e))

module _ (V : ℕ → ℕ) where
  literal_stands : (k : BitsKind) (negative : Bool) (m : ℕ) (x : Outcome) → is_some (literal_with k negative m) ≡ true
      → constant_outcome k (or_zero (literal_with k negative m)) ≡ Some x → Stands k V (polynomials.number (literal_coefficient negative m)) x
  literal_stands k negative m x there e =
      let v = or_zero (literal_with k negative m) in
      let known = constant_known k v x e in
      let low = is_wide k v known.1 in
      let w = width_of k in
      let c = literal_coefficient negative m in
      record {
        value = v;
        is = known.0;
        fits = known.1;
        low = number_low c;
        same = ap (λ n. n % 2 ^ w) (sym (literal_known k negative m there)) ∙ literal_same w low negative m ∙ sym (number_value V w low c);
      }

  pub written_stands : (ks : List BitsKind) (t : ℕ) (l : Literal) (xs : List Outcome) (x : Outcome) → literal_has t l ≡ true → is_literal_of ks l ≡ true
      → step_of (written_step ks l) xs ≡ Some x → Stands (kind_at ks t) V (formal_literal l) x
  written_stands ks t l xs x has there e = subst (λ u. Stands (kind_at ks u) V (formal_literal l) x) (eqb-true l.ty t has) (literal_stands (kind_at ks l.ty) l.negative l.magnitude x there e)

  pub extra_is_valid : (ks : List BitsKind) (t : ℕ) (f : ExtraConstant) (fs : Formal) (xs : List Outcome) (x : Outcome) → AllStand (kind_at ks t) V fs xs
      → extra_has t f ≡ true → extra_fits ks f ≡ true → step_of (extra_step ks f) xs ≡ Some x → StandsAt (kind_at ks t) V (formal_extra f fs) x
  extra_is_valid ks t (extra.Literal l) fs xs x stand has there e = written_stands ks t l xs x has there e
  extra_is_valid ks t (extra.SameAs i) fs xs x stand has there e =
      gave_at (kind_at ks t) V fs xs stand (formal_at i fs) (step_of (again_step i) xs) x e (again_gives (kind_at ks t) V fs xs stand i)

-- ---- of numbers

bitwise_value : (o : Arithmetic) (w a b : ℕ) → is_bitwise o ≡ true → a < 2 ^ w → b < 2 ^ w → (n : ℕ) × (value_of o w a b ≡ Some n) × (n < 2 ^ w)
bitwise_value op.And w a b e l m = (bit_and a b, refl, omega (arith, l, and_le_l a b))
bitwise_value op.Or w a b e l m = (bit_or a b, refl, or_lt w a b l m)
bitwise_value op.ExclusiveOr w a b e l m = (bit_xor a b, refl, xor_lt w a b l m)
bitwise_value _ w a b e l m = absurd (true≢false (sym e))

module _ (k : BitsKind) where
  log_known : (v : ℕ) (x : Outcome) → is_bits k v ≡ true → log_outcome (Some (k, v)) ≡ Some x → IsKnown k x
  log_known v x fits e =
      let g = given_some (log_of (width_of k) v) (λ n. Some (Some (k, n))) x e in
      record {
        value = g.0;
        is = sym (same_Some (Some (k, g.0)) x g.2);
        fits = other_bits k v g.0 fits (lt_power g.0 (width_of k) (log_below (width_of k) v g.0 g.1));
      }

  bitwise_known : (o : Arithmetic) (a b : ℕ) (x : Outcome) → is_bitwise o ≡ true → is_bits k a ≡ true → is_bits k b ≡ true → pair_outcome o (Some (k, a)) (Some (k, b)) ≡ Some x → IsKnown k x
  bitwise_known o a b x bit s t e =
      let n = bitwise_value o (width_of k) a b bit (is_below k a s) (is_below k b t) in
      record {
        value = n.0;
        is = sym (same_Some (Some (k, n.0)) x (ap (checked o k b) (sym n.1) ∙ sym (pair_known k o a b) ∙ e));
        fits = other_bits k a n.0 s n.2;
      }

  module _ (fin : List Outcome) where
    abbrev V : ℕ → ℕ
    V = number_at fin

    -- one more place, with a fresh variable
    pub next_stands : (fs : Formal) (xs : List Outcome) (x : Outcome) → AllStand k V fs xs → IsPreceding (xs ++ (x ∷ [])) fin → IsKnown k x → Stands k V (value_at (length fs)) x
    next_stands fs xs x stand preceding known =
        let v = known.value in
        let preceding : IsPreceding (xs ++ (Some (k, v) ∷ [])) fin = subst (λ x. IsPreceding (xs ++ (x ∷ [])) fin) known.is preceding in
        let place : V (length fs) ≡ v = ap V (stand_long k V fs xs stand) ∙ last_number xs fin k v preceding in
        record {
          value = v;
          is = known.is;
          fits = known.fits;
          low = value_low (length fs);
          same = ap (λ n. n % 2 ^ width_of k) (sym place ∙ sym (place_value V (length fs)));
        }

    module _ (fs : Formal) (xs : List Outcome) (x : Outcome) (stand : AllStand k V fs xs) (preceding : IsPreceding (xs ++ (x ∷ [])) fin) where
      next_at : (a b : Option Polynomial) → ((p q : Polynomial) → a ≡ Some p → b ≡ Some q → IsKnown k x) → StandsAt k V (formal_next a b fs) x
      next_at None b known = tt
      next_at (Some p) None known = tt
      next_at (Some p) (Some q) known = next_stands fs xs x stand preceding (known p q refl refl)

      bitwise_at : (o : Arithmetic) (i j : ℕ) → is_bitwise o ≡ true → given (slice_get xs i) (λ x. given (slice_get xs j) (λ y. pair_outcome o x y)) ≡ Some x
          → (p q : Polynomial) → formal_at i fs ≡ Some p → formal_at j fs ≡ Some q → IsKnown k x
      bitwise_at o i j bit e p q a b =
          let y = found_at k V fs xs i p stand a in
          let z = found_at k V fs xs j q stand b in
          bitwise_known o y.stands.value z.stands.value x bit y.stands.fits z.stands.fits
          ((λ n. pair_outcome o (sym y.stands.is n) (sym z.stands.is n)) ∙ sym (given_both k V fs xs stand (pair_outcome o) i j y.outcome z.outcome y.is z.is) ∙ e)

      log_at : (i : ℕ) → given (slice_get xs i) log_outcome ≡ Some x → (p q : Polynomial) → formal_at i fs ≡ Some p → formal_at i fs ≡ Some q → IsKnown k x
      log_at i e p q a b =
          let y = found_at k V fs xs i p stand a in
          log_known y.stands.value x y.stands.fits (ap log_outcome (sym y.stands.is) ∙ ap (λ r. given r log_outcome) (sym y.is) ∙ e)

      pair_at : (o : Arithmetic) (i j : ℕ) (b : Bool) → is_bitwise o ≡ b → given (slice_get xs i) (λ x. given (slice_get xs j) (λ y. pair_outcome o x y)) ≡ Some x
          → StandsAt k V (if b then formal_next (formal_at i fs) (formal_at j fs) fs else formal_of o i j fs) x
      pair_at o i j true bit e = next_at (formal_at i fs) (formal_at j fs) (bitwise_at o i j bit e)
      pair_at o i j false bit e = gave_at k V fs xs stand (formal_of o i j fs) (given (slice_get xs i) (λ x. given (slice_get xs j) (λ y. pair_outcome o x y))) x e (of_gives k V fs xs stand o i j)

pub number_is_valid : (ks : List BitsKind) (t : ℕ) (fin : List Outcome) (n : ConstantExpression) (fs : Formal) (xs : List Outcome) (x : Outcome) → AllStand (kind_at ks t) (number_at fin) fs xs
    → IsPreceding (xs ++ (x ∷ [])) fin → number_has t n ≡ true → number_fits ks n ≡ true → step_of (number_step ks n) xs ≡ Some x → StandsAt (kind_at ks t) (number_at fin) (formal_number n fs) x
number_is_valid ks t fin (number.Literal l) fs xs x stand preceding has there e = written_stands (number_at fin) ks t l xs x has there e
number_is_valid ks t fin (number.Width u) fs xs x stand preceding has there e =
    let known = constant_known (kind_at ks u) (width_of (kind_at ks u) % 2 ^ width_of (kind_at ks u)) x e in
    let is : IsKnown (kind_at ks u) x = record { value = width_of (kind_at ks u) % 2 ^ width_of (kind_at ks u); is = known.0; fits = known.1 } in
    next_stands (kind_at ks t) fin fs xs x stand preceding (subst (λ u. IsKnown (kind_at ks u) x) (eqb-true u t has) is)
number_is_valid ks t fin (number.Binary o i j) fs xs x stand preceding has there e = pair_at (kind_at ks t) fin fs xs x stand preceding o i j (is_bitwise o) refl e
number_is_valid ks t fin (number.Compare q i j) fs xs x stand preceding has there e = tt
number_is_valid ks t fin (number.Log2 i) fs xs x stand preceding has there e = next_at (kind_at ks t) fin fs xs x stand preceding (formal_at i fs) (formal_at i fs) (log_at (kind_at ks t) fin fs xs x stand preceding i e)
number_is_valid ks t fin (number.Require i) fs xs x stand preceding has there e = tt
