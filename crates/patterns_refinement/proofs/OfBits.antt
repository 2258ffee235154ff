-- The results of steps are in range of their kinds, if the values before them are.
use Rattle.std.proofs.Common.{◌≡◌, ℕ, ◌+◌, ◌*◌, ◌/◌, ◌%◌, ◌^◌, ◌<◌, ◌≤◌, refl, ap, sym, ◌∙◌, subst, List, [], ◌∷◌, ◌++◌, length, Bool, true, false, true≢false, ◌&&◌, not, pos, ◌-ℤ◌, Option, Some, None, slice_get, inl, inr, arith}
use Rattle.std.specs.Prelude.{if◌then◌else◌, ◌==◌, nat_lt, int_div, int_rem, int_lt, bit_and, bit_or, bit_xor}
use Rattle.std.specs.Int.{int_shr}
use Rattle.std.proofs.lemmas.Bool.{and_parts, cases_eq, cases_lt}
use Rattle.std.proofs.lemmas.Bool.Decides.{nat_tests}
use Rattle.std.proofs.lemmas.Nat.{and_le_l, or_lt, pow_pos, xor_lt}
use Rattle.std.proofs.lemmas.Option.{none-some, same_Some}
use Rattle.std.proofs.Math.Nat.{div-le_self}
use Rattle.ir_types.specs.declared.bits.BitsKind.{BitsKind}
use Rattle.ir_types.specs.declared.bits.BitsKind.TheVariants as kind
use Rattle.ir_types.specs.Bits.{is_bits, width_of}
use Rattle.ir_types.specs.Readings.{signed_of}
use Rattle.ir_types.specs.Reasons.{is_width}
use Rattle.ir_types.proofs.ReadingLaws.{bits_below}
use Rattle.dialects_int.specs.declared.operations.Arithmetic.{Arithmetic}
use Rattle.dialects_int.specs.declared.operations.Arithmetic.TheVariants as op
use Rattle.dialects_int.specs.declared.operations.Cast.{Cast}
use Rattle.dialects_int.specs.declared.operations.Cast.TheVariants as cast
use Rattle.dialects_int.specs.declared.operations.Predicate.{Predicate}
use Rattle.dialects_int.specs.Folds.{Known, same_kind}
use Rattle.dialects_int.specs.Arithmetic.{cast_of, choice_of, comparison_of, difference_of, divides_signed, left_shift_of, maximum_of, minimum_of, product_of, quotient_of, remainder_of, right_shift_of, sign_extended, signed_maximum_of, signed_minimum_of, signed_quotient_of, signed_remainder_of, signed_right_shift_of, sum_of, truncated, truth, value_of, zero_extended}
use Rattle.user_patterns_check.specs.declared.step.Step.{Step}
use Rattle.user_patterns_check.specs.declared.step.Step.TheVariants as step
use Rattle.user_patterns_check.specs.Outcomes.{Outcome, compare_outcome, constant_outcome, divides, given, is_signed_remainder, is_some_number, checked, log_of, log_outcome, no_value, pair_outcome, required, resize_any, resize_outcome, run, select_outcome, step_of}
use Rattle.user_patterns_check.proofs.Logs.{log_below, lt_power}
use Rattle.patterns_laws.proofs.KnownFolds.{given_some}
use Rattle.patterns_refinement.proofs.Steps.{push_below, push_last, push_past}

-- ---- results are below 2 ^ w
below_by : (n k : ℕ) → n % 2 ^ k < 2 ^ k
below_by n k = let h = pow_pos k in omega (arith, h)

some_below : (w n v : ℕ) → n < 2 ^ w → Some n ≡ Some v → v < 2 ^ w
some_below w n v l e = subst (λ z. z < 2 ^ w) (same_Some _ _ e) l

if_below : (w : ℕ) (b : Bool) (n v : ℕ) → n < 2 ^ w → (if b then Some n else None) ≡ Some v → v < 2 ^ w
if_below w true n v l e = some_below w n v l e
if_below w false n v l e = absurd (none-some v e)

less_than : (w n m : ℕ) → n ≤ m → m < 2 ^ w → n < 2 ^ w
less_than w n m l h = omega (arith, l, h)

one_of : (w : ℕ) (c : Bool) (a b : ℕ) → a < 2 ^ w → b < 2 ^ w → (if c then b else a) < 2 ^ w
one_of w true a b l h = h
one_of w false a b l h = l

pub value_below : (o : Arithmetic) (w a b v : ℕ) → a < 2 ^ w → b < 2 ^ w → value_of o w a b ≡ Some v → v < 2 ^ w
unfolding sum_of difference_of product_of signed_quotient_of signed_remainder_of quotient_of remainder_of left_shift_of right_shift_of signed_right_shift_of signed_maximum_of maximum_of signed_minimum_of minimum_of
value_below op.Add w a b v l h e = some_below w _ v (below_by (a + b) w) e
value_below op.Subtract w a b v l h e = some_below w _ v (bits_below w (pos a -ℤ pos b)) e
value_below op.Multiply w a b v l h e = some_below w _ v (below_by (a * b) w) e
value_below op.ShiftLeft w a b v l h e = if_below w (nat_lt b w) _ v (below_by (a * 2 ^ b) w) e
value_below op.DivideSigned w a b v l h e = if_below w (divides_signed w a b) _ v (bits_below w (int_div (signed_of w a) (signed_of w b))) e
value_below op.DivideUnsigned w a b v l h e = go (b == 0) e
  where
    go : (c : Bool) → (if c then None else Some (a / b)) ≡ Some v → v < 2 ^ w
    go true e = absurd (none-some v e)
    go false e = some_below w (a / b) v (less_than w (a / b) a (div-le_self a b) l) e
value_below op.RemainderSigned w a b v l h e = if_below w (divides_signed w a b) _ v (bits_below w (int_rem (signed_of w a) (signed_of w b))) e
value_below op.RemainderUnsigned w a b v l h e = go (b == 0) e
  where
    at_most : (a b : ℕ) → a % b ≤ a
    at_most a b = omega arith

    go : (c : Bool) → (if c then None else Some (a % b)) ≡ Some v → v < 2 ^ w
    go true e = absurd (none-some v e)
    go false e = some_below w (a % b) v (less_than w (a % b) a (at_most a b) l) e
value_below op.And w a b v l h e = some_below w (bit_and a b) v (less_than w (bit_and a b) a (and_le_l a b) l) e
value_below op.Or w a b v l h e = some_below w (bit_or a b) v (or_lt w a b l h) e
value_below op.ExclusiveOr w a b v l h e = some_below w (bit_xor a b) v (xor_lt w a b l h) e
value_below op.ShiftRightSigned w a b v l h e = if_below w (nat_lt b w) _ v (bits_below w (int_shr (signed_of w a) b)) e
value_below op.ShiftRightUnsigned w a b v l h e = if_below w (nat_lt b w) (a / 2 ^ b) v (less_than w (a / 2 ^ b) a (div-le_self a (2 ^ b)) l) e
value_below op.MaximumSigned w a b v l h e = some_below w _ v (one_of w (int_lt (signed_of w a) (signed_of w b)) a b l h) e
value_below op.MaximumUnsigned w a b v l h e = some_below w _ v (one_of w (nat_lt a b) a b l h) e
value_below op.MinimumSigned w a b v l h e = some_below w _ v (one_of w (int_lt (signed_of w b) (signed_of w a)) a b l h) e
value_below op.MinimumUnsigned w a b v l h e = some_below w _ v (one_of w (nat_lt b a) a b l h) e

cast_below : (c : Cast) (u w a v : ℕ) → cast_of c u w a ≡ Some v → v < 2 ^ w
unfolding sign_extended zero_extended truncated
cast_below cast.ExtendSigned u w a v e = some_below w _ v (bits_below w (signed_of u a)) e
cast_below cast.ExtendUnsigned u w a v e = some_below w _ v (below_by a w) e
cast_below cast.Truncate u w a v e = if_below w (nat_lt w u) _ v (below_by a w) e

-- ---- outcomes
-- a known outcome is in range of its kind
abbrev pub IsOfBits : Outcome → Type 0
IsOfBits o = (y : Known) → o ≡ Some y → is_bits y.0 y.1 ≡ true

abbrev pub AllOfBits : List Outcome → Type 0
AllOfBits env = (i : ℕ) (y : Known) → slice_get env i ≡ Some (Some y) → is_bits y.0 y.1 ≡ true

pub are_bits : (k : BitsKind) (n : ℕ) → is_width (width_of k) ≡ true → n < 2 ^ width_of k → is_bits k n ≡ true
are_bits k n e l = ap (λ b. b && nat_lt n (2 ^ width_of k)) e ∙ by_test n (2 ^ width_of k) l
  where
    by_test : (n m : ℕ) → n < m → nat_lt n m ≡ true
    by_test n m l = grind (arith, nat_tests)

bits_parts : (k : BitsKind) (n : ℕ) → is_bits k n ≡ true → (is_width (width_of k) ≡ true) × (n < 2 ^ width_of k)
bits_parts k n e = let h = and_parts (is_width (width_of k)) (nat_lt n (2 ^ width_of k)) e in (h.0, by_test n (2 ^ width_of k) h.1)
  where
    by_test : (n m : ℕ) → nat_lt n m ≡ true → n < m
    by_test n m h = grind (arith, nat_tests)

poison : (z : Outcome) → Some None ≡ Some z → IsOfBits z
poison z e y i = absurd (none-some y (same_Some _ _ e ∙ i))

known_is : (x : Known) (z : Outcome) → is_bits x.0 x.1 ≡ true → Some (Some x) ≡ Some z → IsOfBits z
known_is x z h e y i = let s : x ≡ y = same_Some _ _ (same_Some _ _ e ∙ i) in subst (λ (y : Known). is_bits y.0 y.1 ≡ true) s h

if_poison : (b : Bool) (z : Outcome) → (if b then None else Some None) ≡ Some z → IsOfBits z
if_poison true z e = absurd (none-some z e)
if_poison false z e = poison z e

checked_bits : (o : Arithmetic) (k : BitsKind) (a b : ℕ) → is_bits k a ≡ true → b < 2 ^ width_of k → (r : Option ℕ) → value_of o (width_of k) a b ≡ r → (z : Outcome) → checked o k b r ≡ Some z → IsOfBits z
checked_bits o k a b h l (Some v) r z e = let p = bits_parts k a h in known_is (k, v) z (are_bits k v p.0 (value_below o (width_of k) a b v p.1 l r)) e
checked_bits o k a b h l None r z e = go (is_signed_remainder o && not (b == 0)) e
  where
    go : (c : Bool) → (if c then Some (Some (k, 0)) else no_value o) ≡ Some z → IsOfBits z
    go true e = known_is (k, 0) z (are_bits k 0 (bits_parts k a h).0 (pow_pos (width_of k))) e
    go false e = if_poison (divides o) z e

pub pair_bits : (o : Arithmetic) (x y z : Outcome) → IsOfBits x → IsOfBits y → pair_outcome o x y ≡ Some z → IsOfBits z
pair_bits o (Some x) (Some y) z h g e = go (same_kind x.0 y.0) refl e
  where
    same : (j k : BitsKind) → same_kind j k ≡ true → width_of j ≡ width_of k
    same (kind.Int v) (kind.Int w) e = grind (arith, nat_tests)
    same (kind.Int v) kind.Index e = absurd (true≢false (sym e))
    same kind.Index (kind.Int w) e = absurd (true≢false (sym e))
    same kind.Index kind.Index e = refl

    go : (c : Bool) → same_kind x.0 y.0 ≡ c → (if c then checked o x.0 y.1 (value_of o (width_of x.0) x.1 y.1) else None) ≡ Some z → IsOfBits z
    go true s e = checked_bits o x.0 x.1 y.1 (h x refl) (subst (λ w. y.1 < 2 ^ w) (sym (same x.0 y.0 s)) (bits_parts y.0 y.1 (g y refl)).1) (value_of o (width_of x.0) x.1 y.1) refl z e
    go false s e = absurd (none-some z e)
pair_bits o (Some x) None z h g e = if_poison (divides o) z e
pair_bits o None y z h g e = if_poison (divides o && not (is_some_number y)) z e

pub compare_bits : (p : Predicate) (x y z : Outcome) → compare_outcome p x y ≡ Some z → IsOfBits z
compare_bits p (Some x) (Some y) z e = go (same_kind x.0 y.0) e
  where
    truths : (b : Bool) → is_bits (kind.Int 1) (truth b) ≡ true
    truths true = refl
    truths false = refl

    go : (c : Bool) → (if c then Some (Some (kind.Int 1, truth (comparison_of (width_of x.0) p x.1 y.1))) else None) ≡ Some z → IsOfBits z
    go true e = known_is (kind.Int 1, truth (comparison_of (width_of x.0) p x.1 y.1)) z (truths (comparison_of (width_of x.0) p x.1 y.1)) e
    go false e = absurd (none-some z e)
compare_bits p (Some x) None z e = poison z e
compare_bits p None y z e = poison z e

pub select_bits : (c x y z : Outcome) → IsOfBits x → IsOfBits y → select_outcome c x y ≡ Some z → IsOfBits z
select_bits None x y z h g e = poison z e
select_bits (Some c) x y z h g e = go (same_kind c.0 (kind.Int 1)) e
  where
    chosen : (b : Bool) → Some (if b then y else x) ≡ Some z → IsOfBits z
    chosen true e = λ k i. g k (same_Some _ _ e ∙ i)
    chosen false e = λ k i. h k (same_Some _ _ e ∙ i)

    go : (b : Bool) → (if b then Some (choice_of c.1 x y) else None) ≡ Some z → IsOfBits z
    go true e = chosen (c.1 == 0) e
    go false e = absurd (none-some z e)

pub resize_bits : (c : Cast) (k : BitsKind) (x z : Outcome) → resize_outcome c k x ≡ Some z → IsOfBits z
resize_bits c k x z e = go (is_width (width_of k)) refl e
  where
    any : (x : Outcome) → is_width (width_of k) ≡ true → resize_any c k x ≡ Some z → IsOfBits z
    any None w e = poison z e
    any (Some x) w e =
        let g = given_some (cast_of c (width_of x.0) (width_of k) x.1) (λ b. Some (Some (k, b))) z e in
        known_is (k, g.0) z (are_bits k g.0 w (cast_below c (width_of x.0) (width_of k) x.1 g.0 g.1)) g.2

    go : (b : Bool) → is_width (width_of k) ≡ b → (if b then resize_any c k x else None) ≡ Some z → IsOfBits z
    go true w e = any x w e
    go false w e = absurd (none-some z e)

log_bits : (x z : Outcome) → IsOfBits x → log_outcome x ≡ Some z → IsOfBits z
log_bits None z h e = absurd (none-some z e)
log_bits (Some x) z h e =
    let g = given_some (log_of (width_of x.0) x.1) (λ k. Some (Some (x.0, k))) z e in
    known_is (x.0, g.0) z (are_bits x.0 g.0 (bits_parts x.0 x.1 (h x refl)).0 (lt_power g.0 (width_of x.0) (log_below (width_of x.0) x.1 g.0 g.1))) g.2

required_bits : (x z : Outcome) → IsOfBits x → required x ≡ Some z → IsOfBits z
required_bits None z h e = absurd (none-some z e)
required_bits (Some x) z h e = go (x.1 == 0) e
  where
    go : (c : Bool) → (if c then None else Some (Some x)) ≡ Some z → IsOfBits z
    go true e = absurd (none-some z e)
    go false e = λ y i. h y (same_Some _ _ e ∙ i)

constant_bits : (k : BitsKind) (n : ℕ) (z : Outcome) → constant_outcome k n ≡ Some z → IsOfBits z
constant_bits k n z e = go (is_bits k n) refl e
  where
    go : (c : Bool) → is_bits k n ≡ c → given (if c then Some (k, n) else None) (λ b. Some (Some b)) ≡ Some z → IsOfBits z
    go true h e = known_is (k, n) z h e
    go false h e = absurd (none-some z e)

-- ---- steps
module _ (env : List Outcome) (h : AllOfBits env) where
  at_place : (i : ℕ) (x : Outcome) → slice_get env i ≡ Some x → IsOfBits x
  at_place i x e y s = h i y (e ∙ ap (λ z. Some z) s)

  pub step_bits : (s : Step) (z : Outcome) → step_of s env ≡ Some z → IsOfBits z
  step_bits (step.Constant k v) z e = constant_bits k v z e
  step_bits (step.Binary o i j) z e =
      let g = given_some (slice_get env i) (λ x. given (slice_get env j) (λ y. pair_outcome o x y)) z e in
      let f = given_some (slice_get env j) (λ y. pair_outcome o g.0 y) z g.2 in
      pair_bits o g.0 f.0 z (at_place i g.0 g.1) (at_place j f.0 f.1) f.2
  step_bits (step.Compare p i j) z e =
      let g = given_some (slice_get env i) (λ x. given (slice_get env j) (λ y. compare_outcome p x y)) z e in
      let f = given_some (slice_get env j) (λ y. compare_outcome p g.0 y) z g.2 in
      compare_bits p g.0 f.0 z f.2
  step_bits (step.Select c i j) z e =
      let b = given_some (slice_get env c) (λ b. given (slice_get env i) (λ x. given (slice_get env j) (λ y. select_outcome b x y))) z e in
      let g = given_some (slice_get env i) (λ x. given (slice_get env j) (λ y. select_outcome b.0 x y)) z b.2 in
      let f = given_some (slice_get env j) (λ y. select_outcome b.0 g.0 y) z g.2 in
      select_bits b.0 g.0 f.0 z (at_place i g.0 g.1) (at_place j f.0 f.1) f.2
  step_bits (step.IntegerCast c k i) z e = let g = given_some (slice_get env i) (λ x. resize_outcome c k x) z e in resize_bits c k g.0 z g.2
  step_bits (step.Log2 i) z e = let g = given_some (slice_get env i) log_outcome z e in log_bits g.0 z (at_place i g.0 g.1) g.2
  step_bits (step.Require i) z e = let g = given_some (slice_get env i) required z e in required_bits g.0 z (at_place i g.0 g.1) g.2

pub push_bits : (env : List Outcome) (o : Outcome) → AllOfBits env → IsOfBits o → AllOfBits (env ++ (o ∷ []))
push_bits env o h is i y e = elim (cases_lt i (length env)) [
  | inl l ↦ h i y (sym (push_below env o i l) ∙ e)
  | inr l ↦ elim (cases_eq i (length env)) [
    | inl s ↦ is y (same_Some _ _ (sym (ap (slice_get (env ++ (o ∷ []))) s ∙ push_last env o) ∙ e))
    | inr n ↦ absurd (none-some (Some y) (sym (push_past env o i (omega (arith, l, n))) ∙ e))
  ]
]

pub run_bits : (ss : List Step) (env new : List Outcome) → AllOfBits env → run ss env ≡ Some new → AllOfBits new
run_bits [] env new h e = subst AllOfBits (same_Some _ _ e) h
run_bits (s ∷ ss) env new h e =
    let g = given_some (step_of s env) (λ v. run ss (env ++ (v ∷ []))) new e in
    run_bits ss (env ++ (g.0 ∷ [])) new (push_bits env g.0 h (step_bits env h s g.0 g.1)) g.2
