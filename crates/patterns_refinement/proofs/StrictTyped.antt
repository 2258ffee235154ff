-- The new values of a pattern of one type that holds at all widths have their types, and the pattern is strict.
use Rattle.std.proofs.Common.{◌≡◌, ℕ, zero, suc, ◌+◌, ◌-◌, ◌<◌, ◌≤◌, refl, ap, sym, ◌∙◌, subst, List, [], ◌∷◌, ◌++◌, length, map, Bool, true, false, true≢false, ◌&&◌, eqb, eqb-true, Option, Some, None, slice_get, get_or, inl, inr, arith}
use Rattle.std.specs.Prelude.{if◌then◌else◌, ◌==◌}
use Rattle.std.specs.List.{list_all, list_any}
use Rattle.std.proofs.Common.{append_assoc}
use Rattle.std.proofs.lemmas.Bool.{and_parts, or_cases, cases_eq, cases_lt, ltb-true}
use Rattle.std.proofs.lemmas.List.{get_or_append_left, length-map, length_push, map-append}
use Rattle.std.proofs.Math.Seq.{get_or-append_seam}
use Rattle.std.proofs.lemmas.Option.{none-some, same_Some, slice_get_within}
use Rattle.ir_types.specs.declared.bits.BitsKind.{BitsKind}
use Rattle.ir_types.specs.declared.bits.BitsKind.TheVariants as kind
use Rattle.dialects_int.specs.declared.operations.Arithmetic.{Arithmetic}
use Rattle.dialects_int.specs.declared.operations.Arithmetic.TheVariants as op
use Rattle.dialects_int.specs.Folds.{same_kind}
use Rattle.user_patterns_check.specs.Outcomes.{given}
use Rattle.user_patterns_check.proofs.Keeping.{same_kinds}
use Rattle.patterns_laws.proofs.KnownFolds.{given_some}
use Rattle.user_patterns_data.specs.declared.pattern.Expression.{Expression}
use Rattle.user_patterns_data.specs.declared.pattern.Expression.TheVariants as form
use Rattle.user_patterns_data.specs.declared.pattern.ExtraConstant.{ExtraConstant}
use Rattle.user_patterns_data.specs.declared.pattern.ExtraConstant.TheVariants as extra
use Rattle.user_patterns_data.specs.declared.pattern.ConstantExpression.{ConstantExpression}
use Rattle.user_patterns_data.specs.declared.pattern.ConstantExpression.TheVariants as number
use Rattle.user_patterns_data.specs.declared.pattern.NewValue.{NewValue}
use Rattle.user_patterns_data.specs.declared.pattern.NewValue.TheVariants as new
use Rattle.user_patterns_data.specs.declared.pattern.PatternOp.{PatternOp}
use Rattle.user_patterns_data.specs.Fitting.{kind_at}
use Rattle.user_patterns_data.specs.Shapes.{PatternModel}
use Rattle.user_patterns_data.specs.WellFormed.{form_is_valid, extra_is_valid, is_constant, is_new, is_number, is_type, is_variable, is_within, new_begins, new_is_valid, news_are_valid, number_is_valid, numbers_are_valid, old_begins}
use Rattle.user_patterns_build.specs.CanBuild.{new_type}
use Rattle.user_patterns_widths.specs.Polynomials.{Polynomial, value_at}
use Rattle.user_patterns_widths.specs.AllWidths.{Formal, form_is_bitwise, formal_at, formal_form, formal_extra, formal_extras, formal_new, formal_news, formal_next, formal_number, formal_numbers, formal_of, formal_olds, formal_pair, formal_values, extra_has, is_bitwise, new_has, new_is_bitwise, number_has, number_is_bitwise, pattern_op_has, pattern_op_is_bitwise}
use Rattle.patterns_refinement.specs.Applied.{form_fits, extra_kind, is_typed, kinds_after, kinds_given, kinds_matched, new_fits, news_fit, number_kind, pattern_op_kind}
use Rattle.patterns_refinement.specs.Strict.{is_strict_form, is_total, is_total_form, new_is_total, pattern_op_is_strict}
use Rattle.patterns_refinement.proofs.Monotone.{kinds_agree}
use Rattle.patterns_refinement.proofs.Numbers.{within_parts}
use Rattle.patterns_refinement.proofs.BoundValues.{standing_stands}
use Rattle.patterns_refinement.proofs.Steps.{push_below, push_last, push_past}

-- the kind at a type's number
pub at_number : (ks : List BitsKind) (t u : ℕ) → (u == t) ≡ true → kind_at ks u ≡ kind_at ks t
at_number ks t u e = ap (kind_at ks) (eqb-true u t e)

-- ---- all known entries of an environment have one kind
module _ {X : Type 0} (k : BitsKind) where
  pub record OneKind (env : List (Option X)) (es : List BitsKind) : Type 0 where
    pub long : length es ≡ length env
    pub are : (i : ℕ) (q : X) → slice_get env i ≡ Some (Some q) → kind_at es i ≡ k

  pub push_one : (env : List (Option X)) (es : List BitsKind) (o : Option X) (j : BitsKind) → OneKind env es → ((q : X) → o ≡ Some q → j ≡ k) → OneKind (env ++ (o ∷ [])) (es ++ (j ∷ []))
  push_one env es o j h is = record {
    long = length_push es j ∙ ap (λ n. n + 1) h.long ∙ sym (length_push env o);
    are = λ i q e. elim (cases_lt i (length env)) [
      | inl l ↦ get_or_append_left es (j ∷ []) (kind.Int 0) i (omega (arith, l, h.long)) ∙ h.are i q (sym (push_below env o i l) ∙ e)
      | inr l ↦ elim (cases_eq i (length env)) [
        | inl s ↦
            ap (λ z. get_or (es ++ (j ∷ [])) z (kind.Int 0)) (s ∙ sym h.long) ∙ get_or-append_seam es j [] (kind.Int 0) ∙ is q (same_Some _ _ (sym (ap (slice_get (env ++ (o ∷ []))) s ∙ push_last env o) ∙ e))
        | inr n ↦ absurd (none-some (Some q) (sym (push_past env o i (omega (arith, l, n))) ∙ e))
      ]
    ];
  }

-- ---- polynomials
module _ (ks : List BitsKind) (t : ℕ) where
  abbrev pub AreOne : Formal → List BitsKind → Type 0
  AreOne env es = OneKind (kind_at ks t) env es

  pub values_one : (vs : List ℕ) (env : Formal) (es : List BitsKind) → list_all (λ v. v == t) vs ≡ true → AreOne env es → AreOne (formal_values vs env) (es ++ map (kind_at ks) vs)
  values_one [] env es e h = subst (AreOne env) (sym (no_more es)) h
    where
      no_more : (es : List BitsKind) → es ++ [] ≡ es
      no_more [] = refl
      no_more (k ∷ es) = λ i. k ∷ no_more es i
  values_one (v ∷ vs) env es e h =
      let p = and_parts (v == t) (list_all (λ v. v == t) vs) e in
      subst (AreOne (formal_values (v ∷ vs) env)) (append_assoc es (kind_at ks v ∷ []) (map (kind_at ks) vs))
      (values_one vs (env ++ (Some (value_at (length env)) ∷ [])) (es ++ (kind_at ks v ∷ [])) p.1
      (push_one (kind_at ks t) env es (Some (value_at (length env))) (kind_at ks v) h (λ q i. at_number ks t v p.0)))

  there : (env : Formal) (es : List BitsKind) → AreOne env es → (i : ℕ) (q : Polynomial) → formal_at i env ≡ Some q → kind_at es i ≡ kind_at ks t
  there env es h i q e = h.are i q (standing_stands i q env e)

  extra_one : (env : Formal) (es : List BitsKind) → AreOne env es → (f : ExtraConstant) → extra_has t f ≡ true → (q : Polynomial) → formal_extra f env ≡ Some q → extra_kind ks es f ≡ kind_at ks t
  extra_one env es h (extra.Literal l) e q i = at_number ks t l.ty e
  extra_one env es h (extra.SameAs j) e q i = there env es h j q i

  pub extras_one : (fs : List ExtraConstant) (env : Formal) (es : List BitsKind) → list_all (extra_has t) fs ≡ true → AreOne env es → AreOne (formal_extras fs env) (kinds_after (extra_kind ks) fs es)
  extras_one [] env es e h = h
  extras_one (f ∷ fs) env es e h =
      let p = and_parts (extra_has t f) (list_all (extra_has t) fs) e in
      extras_one fs (env ++ (formal_extra f env ∷ [])) (es ++ (extra_kind ks es f ∷ [])) p.1 (push_one (kind_at ks t) env es (formal_extra f env) (extra_kind ks es f) h (extra_one env es h f p.0))

  next_one : (env : Formal) (es : List BitsKind) → AreOne env es → (i : ℕ) (p : Option Polynomial) (q : Polynomial) → formal_next (formal_at i env) p env ≡ Some q → kind_at es i ≡ kind_at ks t
  next_one env es h i p q e = let g = given_some (formal_at i env) (λ (r : Polynomial). given p (λ (s : Polynomial). Some (value_at (length env)))) q e in there env es h i g.0 g.1

  record Sides (o : Arithmetic) (i j : ℕ) (env : Formal) (q : Polynomial) : Type 0 where
    pub first : Polynomial
    pub second : Polynomial
    pub first_is : formal_at i env ≡ Some first
    pub gives : formal_pair o first second ≡ Some q

  sides_of : (o : Arithmetic) (i j : ℕ) (env : Formal) (q : Polynomial) → formal_of o i j env ≡ Some q → Sides o i j env q
  sides_of o i j env q e =
      let g = given_some (formal_at i env) (λ p. given (formal_at j env) (λ r. formal_pair o p r)) q e in
      let f = given_some (formal_at j env) (λ r. formal_pair o g.0 r) q g.2 in
      record { first = g.0; second = f.0; first_is = g.1; gives = f.2 }

  number_one : (env : Formal) (es : List BitsKind) → AreOne env es → (n : ConstantExpression) → number_has t n ≡ true → (q : Polynomial) → formal_number n env ≡ Some q → number_kind ks es n ≡ kind_at ks t
  number_one env es h (number.Literal l) e q i = at_number ks t l.ty e
  number_one env es h (number.Width u) e q i = at_number ks t u e
  number_one env es h (number.Binary o j l) e q i = go (is_bitwise o) i
    where
      go : (b : Bool) → (if b then formal_next (formal_at j env) (formal_at l env) env else formal_of o j l env) ≡ Some q → kind_at es j ≡ kind_at ks t
      go true i = next_one env es h j (formal_at l env) q i
      go false i = let s = sides_of o j l env q i in there env es h j s.first s.first_is
  number_one env es h (number.Compare r j l) e q i = absurd (none-some q i)
  number_one env es h (number.Log2 j) e q i = next_one env es h j (formal_at j env) q i
  number_one env es h (number.Require j) e q i = absurd (none-some q i)

  pub numbers_one : (ns : List ConstantExpression) (env : Formal) (es : List BitsKind) → list_all (number_has t) ns ≡ true → AreOne env es → AreOne (formal_numbers ns env) (kinds_after (number_kind ks) ns es)
  numbers_one [] env es e h = h
  numbers_one (n ∷ ns) env es e h =
      let p = and_parts (number_has t n) (list_all (number_has t) ns) e in
      numbers_one ns (env ++ (formal_number n env ∷ [])) (es ++ (number_kind ks es n ∷ [])) p.1 (push_one (kind_at ks t) env es (formal_number n env) (number_kind ks es n) h (number_one env es h n p.0))

  pub values_all : (vs : List ℕ) → list_all (λ v. v == t) vs ≡ true → (i : ℕ) → i < length (map (kind_at ks) vs) → kind_at (map (kind_at ks) vs) i ≡ kind_at ks t
  values_all [] e i l = absurd (omega (arith, l))
  values_all (v ∷ vs) e zero l = at_number ks t v (and_parts (v == t) (list_all (λ v. v == t) vs) e).0
  values_all (v ∷ vs) e (suc i) l = values_all vs (and_parts (v == t) (list_all (λ v. v == t) vs) e).1 i (omega (arith, l))

  -- matched operations are binary arithmetic
  strict_one : (f : Expression) (env : Formal) (q : Polynomial) → formal_form f env ≡ Some q → is_strict_form f ≡ true
  strict_one (form.Binary o i j) env q e = refl
  strict_one (form.Compare r i j) env q e = absurd (none-some q e)
  strict_one (form.Select c i j) env q e = absurd (none-some q e)
  strict_one (form.IntegerCast c i) env q e = absurd (none-some q e)
  strict_one (form.IndexCast c i) env q e = absurd (none-some q e)

  pub olds_one : (os : List PatternOp) (env new : Formal) (es : List BitsKind) → list_all (pattern_op_has t) os ≡ true → formal_olds os env ≡ Some new → AreOne env es → AreOne new (kinds_after (pattern_op_kind ks) os es) × (list_all pattern_op_is_strict os ≡ true)
  olds_one [] env new es e f h = (subst (λ z. AreOne z es) (same_Some _ _ f) h, refl)
  olds_one (o ∷ os) env new es e f h =
      let p = and_parts (pattern_op_has t o) (list_all (pattern_op_has t) os) e in
      let g = given_some (formal_form o.form env) (λ q. formal_olds os (env ++ (Some q ∷ []))) new f in
      let ih = olds_one os (env ++ (Some g.0 ∷ [])) new (es ++ (kind_at ks o.ty ∷ [])) p.1 g.2 (push_one (kind_at ks t) env es (Some g.0) (kind_at ks o.ty) h (λ q i. at_number ks t o.ty p.0)) in
      (ih.0, (λ i. strict_one o.form env g.0 g.1 i && ih.1 i))

  -- new operations have a value for all operands
  total_pair : (o : Arithmetic) (p q r : Polynomial) → formal_pair o p q ≡ Some r → is_total o ≡ true
  total_pair op.ShiftLeft p q r e = absurd (none-some r e)
  total_pair op.DivideSigned p q r e = absurd (none-some r e)
  total_pair op.DivideUnsigned p q r e = absurd (none-some r e)
  total_pair op.RemainderSigned p q r e = absurd (none-some r e)
  total_pair op.RemainderUnsigned p q r e = absurd (none-some r e)
  total_pair op.ShiftRightSigned p q r e = absurd (none-some r e)
  total_pair op.ShiftRightUnsigned p q r e = absurd (none-some r e)
  total_pair o p q r e = refl

  abbrev Made : NewValue → List BitsKind → Type 0
  Made w es = (new_fits ks es w ≡ true) × (new_is_total w ≡ true)

  form_one : (f : Expression) (k : BitsKind) (env : Formal) (es : List BitsKind) (q : Polynomial) → k ≡ kind_at ks t → AreOne env es → formal_form f env ≡ Some q → (form_fits es k f ≡ true) × (is_total_form f ≡ true)
  form_one (form.Binary o i j) k env es q e h f =
      let s = sides_of o i j env q f in
      (kinds_agree (kind_at es i) k (kind_at ks t) (there env es h i s.first s.first_is) e, total_pair o s.first s.second q s.gives)
  form_one (form.Compare r i j) k env es q e h f = absurd (none-some q f)
  form_one (form.Select c i j) k env es q e h f = absurd (none-some q f)
  form_one (form.IntegerCast c i) k env es q e h f = absurd (none-some q f)
  form_one (form.IndexCast c i) k env es q e h f = absurd (none-some q f)

  new_one : (w : NewValue) (env : Formal) (es : List BitsKind) (q : Polynomial) → new_has t w ≡ true → AreOne env es → formal_new w env ≡ Some q → Made w es
  new_one (new.Operation o) env es q e h f = form_one o.form (kind_at ks o.ty) env es q (at_number ks t o.ty e) h f
  new_one (new.Constant i u) env es q e h f = (kinds_agree (kind_at es i) (kind_at ks u) (kind_at ks t) (there env es h i q f) (at_number ks t u e), refl)

  pub type_one : (w : NewValue) → new_has t w ≡ true → kind_at ks (new_type w) ≡ kind_at ks t
  type_one (new.Operation o) e = at_number ks t o.ty e
  type_one (new.Constant i u) e = at_number ks t u e

  pub news_one : (ws : List NewValue) (env last : Formal) (es : List BitsKind) → list_all (new_has t) ws ≡ true → formal_news ws env ≡ Some last → AreOne env es → (news_fit ks es ws ≡ true) × (list_all new_is_total ws ≡ true)
  news_one [] env last es e f h = (refl, refl)
  news_one (w ∷ ws) env last es e f h =
      let p = and_parts (new_has t w) (list_all (new_has t) ws) e in
      let g = given_some (formal_new w env) (λ q. formal_news ws (env ++ (Some q ∷ []))) last f in
      let m = new_one w env es g.0 p.0 h g.1 in
      let ih = news_one ws (env ++ (Some g.0 ∷ [])) last (es ++ (kind_at ks (new_type w) ∷ [])) p.1 g.2 (push_one (kind_at ks t) env es (Some g.0) (kind_at ks (new_type w)) h (λ q i. type_one w p.0)) in
      ((λ i. m.0 i && ih.0 i), (λ i. m.1 i && ih.1 i))

-- ---- all places have one kind
module _ (p : PatternModel) (ks : List BitsKind) (t : ℕ) (constants : list_all (is_variable p) p.constants ≡ true) where
  abbrev pub All : List BitsKind → Type 0
  All es = (i : ℕ) → i < length es → kind_at es i ≡ kind_at ks t

  push_all : (es : List BitsKind) (j : BitsKind) → All es → j ≡ kind_at ks t → All (es ++ (j ∷ []))
  push_all es j h e i l = elim (cases_lt i (length es)) [
    | inl m ↦ get_or_append_left es (j ∷ []) (kind.Int 0) i m ∙ h i m
    | inr m ↦
        let s : i ≡ length es = omega (arith, m, l, length_push es j) in
        ap (λ z. get_or (es ++ (j ∷ [])) z (kind.Int 0)) s ∙ get_or-append_seam es j [] (kind.Int 0) ∙ e
  ]

  among : (cs : List ℕ) → list_all (is_variable p) cs ≡ true → (i : ℕ) → list_any (eqb i) cs ≡ true → i < length p.values
  among [] e i h = absurd (true≢false (sym h))
  among (c ∷ cs) e i h =
      let q = and_parts (is_variable p c) (list_all (is_variable p) cs) e in
      elim (or_cases (eqb i c) (list_any (eqb i) cs) h) [
        | inl s ↦ subst (λ z. z < length p.values) (sym (eqb-true i c s)) (ltb-true c (length p.values) q.0)
        | inr s ↦ among cs q.1 i s
      ]

  number_there : (es : List BitsKind) (end i : ℕ) → All es → length p.values ≤ length es → end ≤ length es → is_number p end i ≡ true → kind_at es i ≡ kind_at ks t
  number_there es end i h low l e = elim (or_cases (is_constant p i) (is_within (length p.values) end i) e) [
    | inl c ↦ let b = among p.constants constants i c in h i (omega (arith, b, low))
    | inr c ↦ let b = within_parts (length p.values) end i c in h i (omega (arith, b.1, l))
  ]

  pub extras_all : (fs : List ExtraConstant) (es : List BitsKind) → list_all (extra_has t) fs ≡ true → list_all (extra_is_valid p) fs ≡ true → length p.values ≤ length es → All es
      → All (kinds_after (extra_kind ks) fs es) × (length (kinds_after (extra_kind ks) fs es) ≡ length es + length fs)
  extras_all [] es e f low h = (h, omega arith)
  extras_all (f ∷ fs) es e st low h =
      let p1 = and_parts (extra_has t f) (list_all (extra_has t) fs) e in
      let p2 = and_parts (extra_is_valid p f) (list_all (extra_is_valid p) fs) st in
      let l = length_push es (extra_kind ks es f) in
      let ih = extras_all fs (es ++ (extra_kind ks es f ∷ [])) p1.1 p2.1 (omega (arith, low, l)) (push_all es (extra_kind ks es f) h (one f p1.0 p2.0)) in
      let m = ih.1 in
      (ih.0, omega (arith, m, l))
    where
      one : (f : ExtraConstant) → extra_has t f ≡ true → extra_is_valid p f ≡ true → extra_kind ks es f ≡ kind_at ks t
      one (extra.Literal l) e s = at_number ks t l.ty e
      one (extra.SameAs i) e s = let b = among p.constants constants i s in h i (omega (arith, b, low))

  pub numbers_all : (end : ℕ) (ns : List ConstantExpression) (es : List BitsKind) → list_all (number_has t) ns ≡ true → list_all number_is_bitwise ns ≡ true → numbers_are_valid p end ns ≡ true → length es + length ns ≡ end → length p.values ≤ length es → All es
      → All (kinds_after (number_kind ks) ns es) × (length (kinds_after (number_kind ks) ns es) ≡ end)
  numbers_all end [] es e b st sum low h = (h, omega (arith, sum))
  numbers_all end (n ∷ ns) es e b st sum low h =
      let p1 = and_parts (number_has t n) (list_all (number_has t) ns) e in
      let p2 = and_parts (number_is_bitwise n) (list_all number_is_bitwise ns) b in
      let p3 = and_parts (number_is_valid p (end - length (n ∷ ns)) n) (numbers_are_valid p end ns) st in
      let l = length_push es (number_kind ks es n) in
      numbers_all end ns (es ++ (number_kind ks es n ∷ [])) p1.1 p2.1 p3.1 (omega (arith, sum, l)) (omega (arith, low, l))
      (push_all es (number_kind ks es n) h (one n p1.0 p2.0 (end - length (n ∷ ns)) (omega (arith, sum)) p3.0))
    where
      one : (n : ConstantExpression) → number_has t n ≡ true → number_is_bitwise n ≡ true → (k : ℕ) → k ≤ length es → number_is_valid p k n ≡ true → number_kind ks es n ≡ kind_at ks t
      one (number.Literal l) e b k m s = at_number ks t l.ty e
      one (number.Width u) e b k m s = absurd (true≢false (sym b))
      one (number.Binary o i j) e b k m s = number_there es k i h low m (and_parts (is_number p k i) (is_number p k j) s).0
      one (number.Compare q i j) e b k m s = absurd (true≢false (sym b))
      one (number.Log2 i) e b k m s = absurd (true≢false (sym b))
      one (number.Require i) e b k m s = absurd (true≢false (sym b))

  strict_bits : (f : Expression) → form_is_bitwise f ≡ true → is_strict_form f ≡ true
  strict_bits (form.Binary o i j) e = refl
  strict_bits (form.Compare r i j) e = absurd (true≢false (sym e))
  strict_bits (form.Select c i j) e = absurd (true≢false (sym e))
  strict_bits (form.IntegerCast c i) e = absurd (true≢false (sym e))
  strict_bits (form.IndexCast c i) e = absurd (true≢false (sym e))

  pub olds_all : (os : List PatternOp) (es : List BitsKind) → list_all (pattern_op_has t) os ≡ true → list_all pattern_op_is_bitwise os ≡ true → All es
      → All (kinds_after (pattern_op_kind ks) os es) × (length (kinds_after (pattern_op_kind ks) os es) ≡ length es + length os) × (list_all pattern_op_is_strict os ≡ true)
  olds_all [] es e b h = (h, omega arith, refl)
  olds_all (o ∷ os) es e b h =
      let p1 = and_parts (pattern_op_has t o) (list_all (pattern_op_has t) os) e in
      let p2 = and_parts (pattern_op_is_bitwise o) (list_all pattern_op_is_bitwise os) b in
      let l = length_push es (kind_at ks o.ty) in
      let ih = olds_all os (es ++ (kind_at ks o.ty ∷ [])) p1.1 p2.1 (push_all es (kind_at ks o.ty) h (at_number ks t o.ty p1.0)) in
      let m = ih.1 in
      (ih.0, omega (arith, m, l), (λ i. strict_bits o.form p2.0 i && ih.2 i))

  total_bits : (o : Arithmetic) → is_bitwise o ≡ true → is_total o ≡ true
  total_bits op.ShiftLeft e = absurd (true≢false (sym e))
  total_bits op.DivideSigned e = absurd (true≢false (sym e))
  total_bits op.DivideUnsigned e = absurd (true≢false (sym e))
  total_bits op.RemainderSigned e = absurd (true≢false (sym e))
  total_bits op.RemainderUnsigned e = absurd (true≢false (sym e))
  total_bits op.ShiftRightSigned e = absurd (true≢false (sym e))
  total_bits op.ShiftRightUnsigned e = absurd (true≢false (sym e))
  total_bits o e = refl

  place_there : (es : List BitsKind) (k i : ℕ) → All es → length p.values ≤ length es → k ≤ length es → is_new p k i ≡ true → kind_at es i ≡ kind_at ks t
  place_there es k i h low l e = elim (or_cases (is_variable p i) (is_within (new_begins p) k i) e) [
    | inl c ↦ let b = ltb-true i (length p.values) c in h i (omega (arith, b, low))
    | inr c ↦ let b = within_parts (new_begins p) k i c in h i (omega (arith, b.1, l))
  ]

  pub news_all : (end : ℕ) (ws : List NewValue) (es : List BitsKind) → list_all (new_has t) ws ≡ true → list_all new_is_bitwise ws ≡ true → news_are_valid p end ws ≡ true → length es + length ws ≡ end → old_begins p ≤ length es → All es
      → (news_fit ks es ws ≡ true) × (list_all new_is_total ws ≡ true)
  news_all end [] es e b st sum low h = (refl, refl)
  news_all end (w ∷ ws) es e b st sum low h =
      let p1 = and_parts (new_has t w) (list_all (new_has t) ws) e in
      let p2 = and_parts (new_is_bitwise w) (list_all new_is_bitwise ws) b in
      let p3 = and_parts (new_is_valid p (end - length (w ∷ ws)) w) (news_are_valid p end ws) st in
      let l = length_push es (kind_at ks (new_type w)) in
      let one = new_all w p1.0 p2.0 (end - length (w ∷ ws)) (omega (arith, sum)) p3.0 in
      let ih = news_all end ws (es ++ (kind_at ks (new_type w) ∷ [])) p1.1 p2.1 p3.1 (omega (arith, sum, l)) (omega (arith, low, l)) (push_all es (kind_at ks (new_type w)) h (type_one ks t w p1.0)) in
      ((λ i. one.0 i && ih.0 i), (λ i. one.1 i && ih.1 i))
    where
      trailing : length p.values ≤ length es
      trailing = omega (arith, low)

      form_all : (f : Expression) (k : BitsKind) → k ≡ kind_at ks t → form_is_bitwise f ≡ true → (j : ℕ) → j ≤ length es → form_is_valid p (is_new p j) f ≡ true → (form_fits es k f ≡ true) × (is_total_form f ≡ true)
      form_all (form.Binary o i l) k e b j m s = (kinds_agree (kind_at es i) k (kind_at ks t) (place_there es j i h trailing m (and_parts (is_new p j i) (is_new p j l) s).0) e, total_bits o b)
      form_all (form.Compare r i l) k e b j m s = absurd (true≢false (sym b))
      form_all (form.Select c i l) k e b j m s = absurd (true≢false (sym b))
      form_all (form.IntegerCast c i) k e b j m s = absurd (true≢false (sym b))
      form_all (form.IndexCast c i) k e b j m s = absurd (true≢false (sym b))

      new_all : (w : NewValue) → new_has t w ≡ true → new_is_bitwise w ≡ true → (j : ℕ) → j ≤ length es → new_is_valid p j w ≡ true → (new_fits ks es w ≡ true) × (new_is_total w ≡ true)
      new_all (new.Operation o) e b j m s = form_all o.form (kind_at ks o.ty) (at_number ks t o.ty e) b j m (and_parts (is_type p o.ty) (form_is_valid p (is_new p j) o.form) s).1
      new_all (new.Constant i u) e b j m s =
          (kinds_agree (kind_at es i) (kind_at ks u) (kind_at ks t) (number_there es (old_begins p) i h trailing low (and_parts (is_type p u) (is_number p (old_begins p) i) s).1) (at_number ks t u e), refl)

-- ---- new values that have their types at `index` have them at every kind
abbrev mark : BitsKind → Option ℕ
mark kind.Index = Some 0
mark (kind.Int w) = None

index_marked : (k : BitsKind) (q : ℕ) → mark k ≡ Some q → k ≡ kind.Index
index_marked kind.Index q e = refl
index_marked (kind.Int w) q e = absurd (none-some q e)

int_never : {A : Type 0} (w : ℕ) → kind.Int w ≡ kind.Index → A
int_never w e = absurd (none-some 0 (ap mark e))

module _ (is ks : List BitsKind) (t : ℕ) (index : kind_at is t ≡ kind.Index) where
  -- if one kind is `index`, the other is the given kind
  abbrev Related : List BitsKind → List BitsKind → Type 0
  Related es fs = OneKind (kind_at ks t) (map mark es) fs

  marked_at : (es : List BitsKind) (i : ℕ) → kind_at es i ≡ kind.Index → slice_get (map mark es) i ≡ Some (Some 0)
  marked_at [] i e = int_never 0 e
  marked_at (k ∷ es) zero e = ap (λ k. Some (mark k)) e
  marked_at (k ∷ es) (suc i) e = marked_at es i e

  related_at : (es fs : List BitsKind) (i : ℕ) → Related es fs → kind_at es i ≡ kind.Index → kind_at fs i ≡ kind_at ks t
  related_at es fs i h e = h.are i 0 (marked_at es i e)

  push_related : (es fs : List BitsKind) (j k : BitsKind) → Related es fs → (j ≡ kind.Index → k ≡ kind_at ks t) → Related (es ++ (j ∷ [])) (fs ++ (k ∷ []))
  push_related es fs j k h e =
      subst (λ z. OneKind (kind_at ks t) z (fs ++ (k ∷ []))) (sym (map-append mark es (j ∷ [])))
      (push_one (kind_at ks t) (map mark es) fs (mark j) k h (λ q i. e (index_marked j q i)))

  values_related : (vs : List ℕ) → list_all (λ v. v == t) vs ≡ true → Related (map (kind_at is) vs) (map (kind_at ks) vs)
  values_related vs e = record {
    long = length-map vs (kind_at ks) ∙ sym (length-map vs (kind_at is)) ∙ sym (length-map (map (kind_at is) vs) mark);
    are = λ i q s.
        let l = slice_get_within (map mark (map (kind_at is) vs)) i (Some q) s in
        values_all ks t vs e i (omega (arith, l, length-map vs (kind_at ks), length-map vs (kind_at is), length-map (map (kind_at is) vs) mark));
  }

  extras_related : (xs : List ExtraConstant) (es fs : List BitsKind) → list_all (extra_has t) xs ≡ true → Related es fs → Related (kinds_after (extra_kind is) xs es) (kinds_after (extra_kind ks) xs fs)
  extras_related [] es fs e h = h
  extras_related (x ∷ xs) es fs e h =
      let p = and_parts (extra_has t x) (list_all (extra_has t) xs) e in
      extras_related xs (es ++ (extra_kind is es x ∷ [])) (fs ++ (extra_kind ks fs x ∷ [])) p.1 (push_related es fs (extra_kind is es x) (extra_kind ks fs x) h (one x p.0))
    where
      one : (x : ExtraConstant) → extra_has t x ≡ true → extra_kind is es x ≡ kind.Index → extra_kind ks fs x ≡ kind_at ks t
      one (extra.Literal l) e i = at_number ks t l.ty e
      one (extra.SameAs j) e i = related_at es fs j h i

  numbers_related : (xs : List ConstantExpression) (es fs : List BitsKind) → list_all (number_has t) xs ≡ true → Related es fs → Related (kinds_after (number_kind is) xs es) (kinds_after (number_kind ks) xs fs)
  numbers_related [] es fs e h = h
  numbers_related (x ∷ xs) es fs e h =
      let p = and_parts (number_has t x) (list_all (number_has t) xs) e in
      numbers_related xs (es ++ (number_kind is es x ∷ [])) (fs ++ (number_kind ks fs x ∷ [])) p.1 (push_related es fs (number_kind is es x) (number_kind ks fs x) h (one x p.0))
    where
      one : (x : ConstantExpression) → number_has t x ≡ true → number_kind is es x ≡ kind.Index → number_kind ks fs x ≡ kind_at ks t
      one (number.Literal l) e i = at_number ks t l.ty e
      one (number.Width u) e i = at_number ks t u e
      one (number.Binary o j l) e i = related_at es fs j h i
      one (number.Compare q j l) e i = int_never 1 i
      one (number.Log2 j) e i = related_at es fs j h i
      one (number.Require j) e i = related_at es fs j h i

  olds_related : (os : List PatternOp) (es fs : List BitsKind) → list_all (pattern_op_has t) os ≡ true → Related es fs → Related (kinds_after (pattern_op_kind is) os es) (kinds_after (pattern_op_kind ks) os fs)
  olds_related [] es fs e h = h
  olds_related (o ∷ os) es fs e h =
      let p = and_parts (pattern_op_has t o) (list_all (pattern_op_has t) os) e in
      olds_related os (es ++ (kind_at is o.ty ∷ [])) (fs ++ (kind_at ks o.ty ∷ [])) p.1 (push_related es fs (kind_at is o.ty) (kind_at ks o.ty) h (λ i. at_number ks t o.ty p.0))

  is_index : (es : List BitsKind) (i u : ℕ) → (u == t) ≡ true → same_kind (kind_at es i) (kind_at is u) ≡ true → kind_at es i ≡ kind.Index
  is_index es i u e f = same_kinds (kind_at es i) (kind_at is u) f ∙ at_number is t u e ∙ index

  news_related : (ws : List NewValue) (es fs : List BitsKind) → list_all (new_has t) ws ≡ true → list_all new_is_total ws ≡ true → news_fit is es ws ≡ true → Related es fs → news_fit ks fs ws ≡ true
  news_related [] es fs e g f h = refl
  news_related (w ∷ ws) es fs e g f h =
      let p1 = and_parts (new_has t w) (list_all (new_has t) ws) e in
      let p2 = and_parts (new_is_total w) (list_all new_is_total ws) g in
      let p3 = and_parts (new_fits is es w) (news_fit is (es ++ (kind_at is (new_type w) ∷ [])) ws) f in
      let ih = news_related ws (es ++ (kind_at is (new_type w) ∷ [])) (fs ++ (kind_at ks (new_type w) ∷ [])) p1.1 p2.1 p3.1 (push_related es fs (kind_at is (new_type w)) (kind_at ks (new_type w)) h (λ i. type_one ks t w p1.0)) in
      let one = one_fits w p1.0 p2.0 p3.0 in
      (λ i. one i && ih i)
    where
      form_there : (f : Expression) (u : ℕ) → (u == t) ≡ true → is_total_form f ≡ true → form_fits es (kind_at is u) f ≡ true → form_fits fs (kind_at ks u) f ≡ true
      form_there (form.Binary o i j) u e g f = kinds_agree (kind_at fs i) (kind_at ks u) (kind_at ks t) (related_at es fs i h (is_index es i u e f)) (at_number ks t u e)
      form_there (form.Compare q i j) u e g f = absurd (true≢false (sym g))
      form_there (form.Select c i j) u e g f = absurd (true≢false (sym g))
      form_there (form.IntegerCast c i) u e g f = absurd (true≢false (sym g))
      form_there (form.IndexCast c i) u e g f = absurd (true≢false (sym g))

      one_fits : (w : NewValue) → new_has t w ≡ true → new_is_total w ≡ true → new_fits is es w ≡ true → new_fits ks fs w ≡ true
      one_fits (new.Operation o) e g f = form_there o.form o.ty e g f
      one_fits (new.Constant i u) e g f = kinds_agree (kind_at fs i) (kind_at ks u) (kind_at ks t) (related_at es fs i h (is_index es i u e f)) (at_number ks t u e)

  pub typed_too : (p : PatternModel) → list_all (λ v. v == t) p.values ≡ true → list_all (extra_has t) p.extra ≡ true → list_all (number_has t) p.given ≡ true → list_all (pattern_op_has t) p.old ≡ true → list_all (new_has t) p.new ≡ true
      → list_all new_is_total p.new ≡ true → is_typed is p ≡ true → is_typed ks p ≡ true
  typed_too p v f g o w total e =
      news_related p.new (kinds_matched is p) (kinds_matched ks p) w total e
      (olds_related p.old (kinds_given is p) (kinds_given ks p) o
      (numbers_related p.given (kinds_after (extra_kind is) p.extra (map (kind_at is) p.values)) (kinds_after (extra_kind ks) p.extra (map (kind_at ks) p.values)) g
      (extras_related p.extra (map (kind_at is) p.values) (map (kind_at ks) p.values) f (values_related p.values v))))
