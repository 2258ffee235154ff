-- The outcomes of variables, and the widths of a claim's types.
use Rattle.std.proofs.Common.{◌≡◌, ◌∙◌, ℕ, ◌+◌, ◌*◌, ◌/◌, ◌%◌, ◌^◌, ◌<◌, ◌≤◌, List, [], ◌∷◌, ◌++◌, length, length-append, map, Bool, true, false, true≢false, ◌&&◌, nat_lt, if◌then◌else◌, Option, Some, None, refl, sym, ap, subst, arith}
use Rattle.std.specs.Prelude.{is_none}
use Rattle.std.specs.List.{list_all}
use Rattle.std.proofs.lemmas.Bool.{and_parts}
use Rattle.std.proofs.lemmas.Bool.Decides.{nat_tests}
use Rattle.std.proofs.lemmas.List.{append_assoc, append-nil, length-map, map-append}
use Rattle.std.proofs.Math.Nat.{mod-eq_of_lt}
use Rattle.std.proofs.Math.Seq.{get_or-append_seam}
use Rattle.ir_types.specs.declared.bits.BitsKind.{BitsKind}
use Rattle.ir_types.specs.Bits.{width_of}
use Rattle.ir_types.specs.Limits.{most_width}
use Rattle.ir_types.specs.Readings.{wrapped}
use Rattle.ir_types.specs.Reasons.{is_width}
use Rattle.user_patterns_check.specs.Outcomes.{Outcome, given}
use Rattle.user_patterns_data.specs.declared.pattern.PatternType.{PatternType}
use Rattle.user_patterns_data.specs.declared.pattern.PatternType.TheVariants as ty
use Rattle.user_patterns_data.specs.declared.pattern.TypeConstraint.{TypeConstraint}
use Rattle.user_patterns_data.specs.declared.pattern.TypeConstraint.TheVariants as type_constraints
use Rattle.user_patterns_data.specs.Fitting.{is_requested, is_integer, kind_at}
use Rattle.user_patterns_data.specs.Shapes.{PatternModel}
use Rattle.width_claims.specs.Masks.{mask}
use Rattle.width_claims.specs.declared.form.Form.TheVariants as form
use Rattle.width_claims.specs.declared.form.Expr.{Expr}
use Rattle.width_claims.specs.declared.width.Narrower.{Narrower}
use Rattle.width_claims.specs.declared.width.Width.{Width}
use Rattle.width_claims.specs.declared.width.Width.TheVariants as width
use Rattle.width_claims.specs.PatternOpValues.{at}
use Rattle.width_claims.specs.Right.{AreNarrower, ConditionsHold, FitWidths, IsBelow}
use Rattle.user_patterns_instructions.specs.declared.operand.Poison.{Poison}
use Rattle.user_patterns_instructions.specs.declared.operand.Poison.TheVariants as poison
use Rattle.user_patterns_claims.specs.Outcomes.{AreKindsOf, AreOutcomes, IsNumberIf, IsOutcome, are_kinds}
use Rattle.user_patterns_instructions.specs.Expressions.{claim_types, narrower_types, push_expr, is_repeated, type_at, types_from, width_if, with_narrower}
use Rattle.user_patterns_claims.specs.Translation.{State, bit_flag, first_state, is_constant, set_count, variable_result, variables, with_variable}
use Rattle.user_patterns_instructions.proofs.PatternOps.{made, many, values}
use Rattle.user_patterns_instructions.proofs.Flags.{PoisonIs}
use Rattle.user_patterns_instructions.proofs.Operands.{outcome_by, width_is}
use Rattle.user_patterns_claims.proofs.Typing.{TypeIs, claim_kinds, kind_if, kinds_from, type_is, width_low}
use Rattle.user_patterns_claims.proofs.Instructions.{AllOnes, Holds, reached}

-- ---- widths

abbrev pub masks_of : List BitsKind → List ℕ
masks_of ks = map (λ k. mask (width_of k)) ks

fit_next : (W : ℕ) (pre : List ℕ) (m : ℕ) (rest : List ℕ) (tys : List Width) (us : List ℕ) → FitWidths W ((pre ++ m ∷ []) ++ rest) (length (pre ++ m ∷ [])) tys us → FitWidths W (pre ++ (m ∷ rest)) (length pre + 1) tys us
fit_next W pre m rest tys us f =
    subst (λ (vs : List ℕ). FitWidths W vs (length pre + 1) tys us) (append_assoc pre (m ∷ []) rest)
    (subst (λ (n : ℕ). FitWidths W ((pre ++ m ∷ []) ++ rest) n tys us) (length-append pre (m ∷ [])) f)

-- the type of a kind
abbrev FitsOne : ℕ → List ℕ → ℕ → Width → ℕ → Type 0
FitsOne W vs v width.Free w = IsBelow W w × (at vs v ≡ mask w)
FitsOne W vs v (width.Fixed u) w = IsBelow W w × (u ≡ w)

fit_cons : (W : ℕ) (vs : List ℕ) (v : ℕ) (t : Width) (w : ℕ) (tys : List Width) (us : List ℕ) → FitsOne W vs v t w → FitWidths W vs (v + 1) tys us → FitWidths W vs v (t ∷ tys) (w ∷ us)
fit_cons W vs v width.Free w tys us f rest = (f.0, f.1, rest)
fit_cons W vs v (width.Fixed u) w tys us f rest = (f.0, f.1, rest)

fit_more : (W : ℕ) → most_width ≤ W → (all value_types : List PatternType) (ks : List BitsKind) (i : ℕ) (pre : List ℕ) → AreKindsOf value_types ks → are_kinds ks ≡ true
    → FitWidths W (pre ++ masks_of (kinds_from all i value_types ks)) (length pre) (types_from all i value_types) (map width_of (kinds_from all i value_types ks))
fit_more W most all [] [] i pre a w = tt
fit_more W most all [] (j ∷ ks) i pre a w = absurd a
fit_more W most all (ty.Concrete k ∷ value_types) [] i pre a w = absurd a
fit_more W most all (ty.Variable v ∷ value_types) [] i pre a w = absurd a
fit_more W most all (ty.Concrete k ∷ value_types) (j ∷ ks) i pre a w =
    let h = and_parts (is_width (width_of j)) (are_kinds ks) w in
    let c = is_repeated i all (ty.Concrete k) in
    let m = mask (width_of (kind_if c j)) in
    let rest = kinds_from all (i + 1) value_types ks in
    fit_cons W (pre ++ (m ∷ masks_of rest)) (length pre) (width_if c (ty.Concrete k)) (width_of (kind_if c j)) (types_from all (i + 1) value_types) (map width_of rest)
    (one c h.0)
    (fit_next W pre m (masks_of rest) (types_from all (i + 1) value_types) (map width_of rest) (fit_more W most all value_types ks (i + 1) (pre ++ m ∷ []) a.1 h.1))
  where
    one : (b : Bool) → is_width (width_of j) ≡ true
        → FitsOne W (pre ++ (mask (width_of (kind_if b j)) ∷ masks_of (kinds_from all (i + 1) value_types ks))) (length pre) (width_if b (ty.Concrete k)) (width_of (kind_if b j))
    one true g = (width_low W 1 most refl, refl)
    one false g = (width_low W (width_of j) most g, ap width_of (sym a.0))
fit_more W most all (ty.Variable v ∷ value_types) (j ∷ ks) i pre a w =
    let h = and_parts (is_width (width_of j)) (are_kinds ks) w in
    let c = is_repeated i all (ty.Variable v) in
    let m = mask (width_of (kind_if c j)) in
    let rest = kinds_from all (i + 1) value_types ks in
    fit_cons W (pre ++ (m ∷ masks_of rest)) (length pre) (width_if c (ty.Variable v)) (width_of (kind_if c j)) (types_from all (i + 1) value_types) (map width_of rest)
    (one c h.0)
    (fit_next W pre m (masks_of rest) (types_from all (i + 1) value_types) (map width_of rest) (fit_more W most all value_types ks (i + 1) (pre ++ m ∷ []) a h.1))
  where
    one : (b : Bool) → is_width (width_of j) ≡ true
        → FitsOne W (pre ++ (mask (width_of (kind_if b j)) ∷ masks_of (kinds_from all (i + 1) value_types ks))) (length pre) (width_if b (ty.Variable v)) (width_of (kind_if b j))
    one true g = (width_low W 1 most refl, refl)
    one false g = (width_low W (width_of j) most g, get_or-append_seam pre (mask (width_of j)) (masks_of (kinds_from all (i + 1) value_types ks)) 0)

pub fits_in : (W : ℕ) → most_width ≤ W → (value_types : List PatternType) (ks : List BitsKind) (pre : List ℕ) → AreKindsOf value_types ks → are_kinds ks ≡ true
    → FitWidths W (pre ++ masks_of (claim_kinds value_types ks)) (length pre) (claim_types value_types) (map width_of (claim_kinds value_types ks))
fits_in W most value_types ks pre a w =
    let rest = kinds_from value_types 0 value_types ks in
    (width_low W 1 most refl, refl, fit_next W pre (mask 1) (masks_of rest) (types_from value_types 0 value_types) (map width_of rest) (fit_more W most value_types value_types ks 0 (pre ++ mask 1 ∷ []) a w))

-- ---- narrower types

less_from : (n m : ℕ) → nat_lt n m ≡ true → n < m
less_from n m e = grind (arith, nat_tests)

module _ (W : ℕ) (most : most_width ≤ W) (value_types : List PatternType) (ks : List BitsKind) (aligned : AreKindsOf value_types ks) (wide : are_kinds ks ≡ true) where
  abbrev ws : List ℕ
  ws = map width_of (claim_kinds value_types ks)

  narrower_more : (s t : ℕ) (more : List Narrower) → width_of (kind_at ks s) < width_of (kind_at ks t) → AreNarrower ws more → (o r : Option ℕ) → type_at value_types s ≡ o → type_at value_types t ≡ r
      → AreNarrower ws (with_narrower o r more)
  narrower_more s t more l a None None e f = a
  narrower_more s t more l a None (Some v) e f = a
  narrower_more s t more l a (Some u) None e f = a
  narrower_more s t more l a (Some u) (Some v) e f =
      let first = width_is (claim_kinds value_types ks) u ∙ ap width_of (type_is W most value_types ks s u aligned wide e).same in
      let second = width_is (claim_kinds value_types ks) v ∙ ap width_of (type_is W most value_types ks t v aligned wide f).same in
      (subst (λ (n : ℕ). n < at ws v) (sym first) (subst (λ (n : ℕ). width_of (kind_at ks s) < n) (sym second) l), a)

  pub are_narrower : (l : List TypeConstraint) → list_all (is_requested ks) l ≡ true → AreNarrower ws (narrower_types value_types l)
  are_narrower [] e = tt
  are_narrower (type_constraints.Integer t ∷ more) e = are_narrower more (and_parts (is_integer (kind_at ks t)) (list_all (is_requested ks) more) e).1
  are_narrower (type_constraints.Narrower s t ∷ more) e =
      let h = and_parts (is_requested ks (type_constraints.Narrower s t)) (list_all (is_requested ks) more) e in
      let less = (and_parts (is_integer (kind_at ks t)) (nat_lt (width_of (kind_at ks s)) (width_of (kind_at ks t))) (and_parts (is_integer (kind_at ks s)) (is_integer (kind_at ks t) && nat_lt (width_of (kind_at ks s)) (width_of (kind_at ks t))) h.0).1).1 in
      narrower_more s t (narrower_types value_types more) (less_from (width_of (kind_at ks s)) (width_of (kind_at ks t)) less) (are_narrower more h.1) (type_at value_types s) (type_at value_types t) refl refl

-- ---- outcomes

abbrev pub number_of : Outcome → ℕ
number_of None = 0
number_of (Some x) = x.1

abbrev pub poison_bit : Outcome → ℕ
poison_bit None = 1
poison_bit (Some x) = 0

-- the set of the variables that are poison
abbrev pub set_of : PatternModel → ℕ → List ℕ → List Outcome → ℕ
set_of p i [] os = 0
set_of p i (u ∷ tys) [] = 0
set_of p i (u ∷ tys) (o ∷ os) = if is_constant p i then set_of p (i + 1) tys os else poison_bit o + 2 * set_of p (i + 1) tys os

low_bit : (o : Outcome) (n : ℕ) → (poison_bit o + 2 * n) % 2 ≡ poison_bit o
low_bit None n = omega arith
low_bit (Some x) n = omega arith

other_bits : (o : Outcome) (n : ℕ) → (poison_bit o + 2 * n) / 2 ≡ n
other_bits None n = omega arith
other_bits (Some x) n = omega arith

pub set_low : (p : PatternModel) (ks : List BitsKind) (i : ℕ) (tys : List ℕ) (os : List Outcome) → AreOutcomes p ks i tys os → set_of p i tys os < set_count p i tys
set_low p ks i [] [] a = omega arith
set_low p ks i [] (o ∷ os) a = absurd a
set_low p ks i (u ∷ tys) [] a = absurd a
set_low p ks i (u ∷ tys) (o ∷ os) a = go (set_low p ks (i + 1) tys os a.2) (is_constant p i)
  where
    below : (x : Outcome) (n m : ℕ) → n < m → poison_bit x + 2 * n < 2 * m
    below None n m l = omega (arith, l)
    below (Some y) n m l = omega (arith, l)

    go : set_of p (i + 1) tys os < set_count p (i + 1) tys → (b : Bool)
        → (if b then set_of p (i + 1) tys os else poison_bit o + 2 * set_of p (i + 1) tys os) < (if b then set_count p (i + 1) tys else 2 * set_count p (i + 1) tys)
    go l true = l
    go l false = below o (set_of p (i + 1) tys os) (set_count p (i + 1) tys) l

module _ (W : ℕ) (most : most_width ≤ W) (vs : List ℕ) (p : PatternModel) (ks : List BitsKind) (aligned : AreKindsOf p.value_types ks) (wide : are_kinds ks ≡ true) where
  abbrev js : List BitsKind
  js = claim_kinds p.value_types ks

  abbrev us : List ℕ
  us = map width_of js

  abbrev HoldsHere : State → List Outcome → Type 0
  HoldsHere s env = Holds W most vs p.value_types ks aligned wide s env

  -- one variable
  variable_stands : (s : State) (env : List Outcome) (i u t : ℕ) (o : Outcome) (f : Poison) → HoldsHere s env → TypeIs W p.value_types ks u t → IsOutcome (kind_at ks u) o → at vs i ≡ number_of o
      → ((ps : List Expr) → PoisonIs W vs us ps f (is_none o)) → HoldsHere (with_variable s i f t) (env ++ o ∷ [])
  variable_stands s env i u t o f h is fits e flag =
      let n = at vs i % 2 ^ at us t in
      let m = push_expr s.exprs t (form.Value i) in
      let a = made W vs us s.exprs t (form.Value i) n h.base.right is.low tt refl in
      (reached W most vs p.value_types ks aligned wide s env (variable_result m f t) o h a.grown
      (record { number = n; poisoned = is_none o; number_is = a.is; poison_is = flag m.0; is = outcome_is o fits e; written_is = tt })).holds
    where
      outcome_is : (x : Outcome) → IsOutcome (kind_at ks u) x → at vs i ≡ number_of x → x ≡ outcome_by (kind_at js t) (at vs i % 2 ^ at us t) (is_none x)
      outcome_is None g r = refl
      outcome_is (Some x) g r =
          let w : at us t ≡ width_of (kind_at ks u) = width_is js t ∙ ap width_of is.same in
          let cut : at vs i % 2 ^ at us t ≡ x.1 = (λ k. r k % 2 ^ w k) ∙ mod-eq_of_lt g.1 in
          (λ k. Some ((g.0 ∙ sym is.same) k, sym cut k))

  abbrev pub VariablesHold : Option State → List Outcome → Type 0
  VariablesHold None env = Unit {0}
  VariablesHold (Some s) env = HoldsHere s env

  bit_is : (o : Outcome) (ps : List Expr) → PoisonIs W vs us ps (bit_flag (poison_bit o)) (is_none o)
  bit_is None ps = refl
  bit_is (Some x) ps = refl

  constant_is : (o : Outcome) (b : Bool) → b ≡ true → IsNumberIf b o → (ps : List Expr) → PoisonIs W vs us ps poison.Never (is_none o)
  constant_is None true e a ps = absurd a
  constant_is None false e a ps = absurd (true≢false (sym e))
  constant_is (Some x) b e a ps = refl

  pub variables_hold : (tys : List ℕ) (os pre : List Outcome) (i : ℕ) (rest : List ℕ) (s : State) → HoldsHere s pre → i ≡ length pre → AreOutcomes p ks i tys os
      → vs ≡ map number_of pre ++ (map number_of os ++ rest) → VariablesHold (variables p i tys (set_of p i tys os) s) (pre ++ os)
  variables_hold [] [] pre i rest s h long a e = subst (λ (env : List Outcome). HoldsHere s env) (sym (append-nil pre)) h
  variables_hold [] (o ∷ os) pre i rest s h long a e = absurd a
  variables_hold (u ∷ tys) [] pre i rest s h long a e = absurd a
  variables_hold (u ∷ tys) (o ∷ os) pre i rest s h long a e =
      go (λ next k. variables_hold tys os (pre ++ o ∷ []) (i + 1) rest next k long_next a.2 values_next) (type_at p.value_types u) refl
    where
      long_next : i + 1 ≡ length (pre ++ o ∷ [])
      long_next = let l = length-append pre (o ∷ []) in omega (arith, l, long)

      here : at vs i ≡ number_of o
      here =
          let l : i ≡ length (map number_of pre) = long ∙ sym (length-map pre number_of) in
          (λ r. at (e r) (l r)) ∙ get_or-append_seam (map number_of pre) (number_of o) (map number_of os ++ rest) 0

      values_next : vs ≡ map number_of (pre ++ o ∷ []) ++ (map number_of os ++ rest)
      values_next = e ∙ sym (append_assoc (map number_of pre) (number_of o ∷ []) (map number_of os ++ rest)) ∙ ap (λ xs. xs ++ (map number_of os ++ rest)) (sym (map-append number_of pre (o ∷ [])))

      by_constant : (t : ℕ) → TypeIs W p.value_types ks u t → ((next : State) → HoldsHere next (pre ++ o ∷ []) → VariablesHold (variables p (i + 1) tys (set_of p (i + 1) tys os) next) ((pre ++ o ∷ []) ++ os)) → (c : Bool) → is_constant p i ≡ c
          → VariablesHold (if c then variables p (i + 1) tys (if c then set_of p (i + 1) tys os else poison_bit o + 2 * set_of p (i + 1) tys os) (with_variable s i poison.Never t)
          else variables p (i + 1) tys ((if c then set_of p (i + 1) tys os else poison_bit o + 2 * set_of p (i + 1) tys os) / 2) (with_variable s i (bit_flag ((if c then set_of p (i + 1) tys os else poison_bit o + 2 * set_of p (i + 1) tys os) % 2)) t)) (pre ++ (o ∷ os))
      by_constant t is ih true f =
          subst (λ (env : List Outcome). VariablesHold (variables p (i + 1) tys (set_of p (i + 1) tys os) (with_variable s i poison.Never t)) env) (append_assoc pre (o ∷ []) os)
          (ih (with_variable s i poison.Never t) (variable_stands s pre i u t o poison.Never h is a.0 here (constant_is o (is_constant p i) f a.1)))
      by_constant t is ih false f =
          subst (λ (env : List Outcome). VariablesHold (variables p (i + 1) tys ((poison_bit o + 2 * set_of p (i + 1) tys os) / 2) (with_variable s i (bit_flag ((poison_bit o + 2 * set_of p (i + 1) tys os) % 2)) t)) env) (append_assoc pre (o ∷ []) os)
          (subst (λ (n : ℕ). VariablesHold (variables p (i + 1) tys n (with_variable s i (bit_flag ((poison_bit o + 2 * set_of p (i + 1) tys os) % 2)) t)) ((pre ++ o ∷ []) ++ os)) (sym (other_bits o (set_of p (i + 1) tys os)))
          (subst (λ (n : ℕ). VariablesHold (variables p (i + 1) tys (set_of p (i + 1) tys os) (with_variable s i (bit_flag n) t)) ((pre ++ o ∷ []) ++ os)) (sym (low_bit o (set_of p (i + 1) tys os)))
          (ih (with_variable s i (bit_flag (poison_bit o)) t) (variable_stands s pre i u t o (bit_flag (poison_bit o)) h is a.0 here (bit_is o)))))

      go : ((next : State) → HoldsHere next (pre ++ o ∷ []) → VariablesHold (variables p (i + 1) tys (set_of p (i + 1) tys os) next) ((pre ++ o ∷ []) ++ os)) → (r : Option ℕ) → type_at p.value_types u ≡ r
          → VariablesHold (given r (λ t. if is_constant p i then variables p (i + 1) tys (set_of p i (u ∷ tys) (o ∷ os)) (with_variable s i poison.Never t)
          else variables p (i + 1) tys (set_of p i (u ∷ tys) (o ∷ os) / 2) (with_variable s i (bit_flag (set_of p i (u ∷ tys) (o ∷ os) % 2)) t))) (pre ++ (o ∷ os))
      go ih None f = tt
      go ih (Some t) f = by_constant t (type_is W most p.value_types ks u t aligned wide f) ih (is_constant p i) refl

  -- the state before the first variable
  pub first_holds : HoldsHere first_state []
  unfolding wrapped
  first_holds =
      let low = width_low W 1 most refl in
      record {
        base = record {
          right = (low, tt, (low, tt, tt));
          zero_is = record { below = omega arith; type = refl; value = zero_value; low = low };
          one_is = record { below = omega arith; type = refl; value = one_value; low = low };
        };
        all = tt;
        ones = tt;
      }
    where
      zero_value : at (values W vs us (State.exprs first_state)) 0 ≡ 0
      zero_value = refl

      one_value : at (values W vs us (State.exprs first_state)) 1 ≡ 1
      one_value = refl

  -- conditions hold
  pub conditions_hold : (ps : List Expr) (hs : List ℕ) → AllOnes W most vs p.value_types ks aligned wide ps hs → ConditionsHold (values W vs us ps) hs
  conditions_hold ps [] a = tt
  conditions_hold ps (h ∷ hs) a =
      let l = a.0.below in
      let n = many W vs us ps in
      (omega (arith, l, n), a.0.value, conditions_hold ps hs a.1)
