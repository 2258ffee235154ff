-- The kinds of the computed numbers of a pattern.
use Rattle.std.proofs.Common.{◌≡◌, ℕ, ◌+◌, refl, ap, sym, ◌∙◌, subst, List, [], ◌∷◌, ◌++◌, length, map, Bool, true, false, ◌&&◌, not, Option, Some, None, slice_get, get_or, inl, inr, arith}
use Rattle.std.specs.Prelude.{if◌then◌else◌, ◌==◌}
use Rattle.std.proofs.lemmas.Bool.{and_parts, cases_eq, cases_lt}
use Rattle.std.proofs.lemmas.List.{get_or_append_left, length_push}
use Rattle.std.proofs.Math.Seq.{get_or-append_seam}
use Rattle.std.proofs.lemmas.Option.{none-some, same_Some}
use Rattle.ir_types.specs.declared.bits.BitsKind.{BitsKind}
use Rattle.ir_types.specs.declared.bits.BitsKind.TheVariants as kind
use Rattle.ir_types.specs.Bits.{is_bits, width_of}
use Rattle.ir_types.specs.Reasons.{is_width}
use Rattle.dialects_int.specs.declared.operations.Arithmetic.{Arithmetic}
use Rattle.dialects_int.specs.declared.operations.Arithmetic.TheVariants as op
use Rattle.dialects_int.specs.declared.operations.Predicate.{Predicate}
use Rattle.dialects_int.specs.Folds.{Known, same_kind}
use Rattle.dialects_int.specs.declared.operations.Cast.{Cast}
use Rattle.dialects_int.specs.Arithmetic.{cast_of, choice_of, comparison_of, truth, value_of}
use Rattle.user_patterns_check.specs.declared.step.Step.{Step}
use Rattle.user_patterns_check.specs.declared.step.Step.TheVariants as step
use Rattle.user_patterns_check.specs.Outcomes.{Outcome, compare_outcome, constant_outcome, divides, given, is_signed_remainder, is_some_number, checked, log_of, log_outcome, no_value, pair_outcome, required, resize_any, resize_outcome, run, select_outcome, step_of}
use Rattle.user_patterns_check.proofs.Keeping.{same_kinds}
use Rattle.patterns_laws.proofs.KnownFolds.{given_some}
use Rattle.user_patterns_data.specs.declared.pattern.ExtraConstant.{ExtraConstant}
use Rattle.user_patterns_data.specs.declared.pattern.ExtraConstant.TheVariants as extra
use Rattle.user_patterns_data.specs.declared.pattern.ConstantExpression.{ConstantExpression}
use Rattle.user_patterns_data.specs.declared.pattern.ConstantExpression.TheVariants as number
use Rattle.user_patterns_data.specs.declared.pattern.Expression.{Expression}
use Rattle.user_patterns_data.specs.declared.pattern.Expression.TheVariants as form
use Rattle.user_patterns_data.specs.declared.pattern.NewValue.{NewValue}
use Rattle.user_patterns_data.specs.declared.pattern.NewValue.TheVariants as new
use Rattle.user_patterns_data.specs.Fitting.{form_step, extra_step, kind_at, new_step, number_step}
use Rattle.user_patterns_build.specs.CanBuild.{new_type}
use Rattle.patterns_refinement.specs.Applied.{form_fits, extra_kind, kinds_after, new_fits, number_kind}
use Rattle.patterns_refinement.proofs.Steps.{push_below, push_last, push_past}

-- a known outcome has the kind
abbrev pub IsKind : BitsKind → Outcome → Type 0
IsKind k o = (x : Known) → o ≡ Some x → x.0 ≡ k

-- known outcomes have these kinds
pub record OfKinds (es : List BitsKind) (env : List Outcome) : Type 0 where
  pub long : length es ≡ length env
  pub are : (i : ℕ) (x : Known) → slice_get env i ≡ Some (Some x) → x.0 ≡ kind_at es i

pub push_kinds : (es : List BitsKind) (env : List Outcome) (k : BitsKind) (o : Outcome) → OfKinds es env → IsKind k o → OfKinds (es ++ (k ∷ [])) (env ++ (o ∷ []))
push_kinds es env k o h is = record {
  long = length_push es k ∙ ap (λ n. n + 1) h.long ∙ sym (length_push env o);
  are = λ i x e. elim (cases_lt i (length env)) [
    | inl l ↦ h.are i x (sym (push_below env o i l) ∙ e) ∙ sym (get_or_append_left es (k ∷ []) (kind.Int 0) i (omega (arith, l, h.long)))
    | inr l ↦ elim (cases_eq i (length env)) [
      | inl s ↦
          is x (same_Some _ _ (sym (ap (slice_get (env ++ (o ∷ []))) s ∙ push_last env o) ∙ e)) ∙ sym (ap (λ j. get_or (es ++ (k ∷ [])) j (kind.Int 0)) (s ∙ sym h.long) ∙ get_or-append_seam es k [] (kind.Int 0))
      | inr n ↦ absurd (none-some (Some x) (sym (push_past env o i (omega (arith, l, n))) ∙ e))
    ]
  ];
}

-- ---- the results of steps
poison : (k : BitsKind) (z : Outcome) → Some None ≡ Some z → IsKind k z
poison k z e x i = absurd (none-some x (same_Some _ _ e ∙ i))

known_is : (k : BitsKind) (n : ℕ) (z : Outcome) → Some (Some (k, n)) ≡ Some z → IsKind k z
known_is k n z e x i = let s : (k, n) ≡ x = same_Some _ _ (same_Some _ _ e ∙ i) in ap (λ (y : Known). y.0) (sym s)

if_poison : (k : BitsKind) (b : Bool) (z : Outcome) → (if b then None else Some None) ≡ Some z → IsKind k z
if_poison k true z e = absurd (none-some z e)
if_poison k false z e = poison k z e

checked_kind : (o : Arithmetic) (k : BitsKind) (b : ℕ) (r : Option ℕ) (z : Outcome) → checked o k b r ≡ Some z → IsKind k z
checked_kind o k b (Some v) z e = known_is k v z e
checked_kind o k b None z e = go (is_signed_remainder o && not (b == 0)) e
  where
    go : (c : Bool) → (if c then Some (Some (k, 0)) else no_value o) ≡ Some z → IsKind k z
    go true e = known_is k 0 z e
    go false e = if_poison k (divides o) z e

pub pair_kind : (o : Arithmetic) (k : BitsKind) (x y z : Outcome) → IsKind k x → pair_outcome o x y ≡ Some z → IsKind k z
pair_kind o k (Some x) (Some y) z h e = go (same_kind x.0 y.0) e
  where
    go : (c : Bool) → (if c then checked o x.0 y.1 (value_of o (width_of x.0) x.1 y.1) else None) ≡ Some z → IsKind k z
    go true e = subst (λ k. IsKind k z) (h x refl) (checked_kind o x.0 y.1 (value_of o (width_of x.0) x.1 y.1) z e)
    go false e = absurd (none-some z e)
pair_kind o k (Some x) None z h e = if_poison k (divides o) z e
pair_kind o k None y z h e = if_poison k (divides o && not (is_some_number y)) z e

pub compare_kind : (p : Predicate) (x y z : Outcome) → compare_outcome p x y ≡ Some z → IsKind (kind.Int 1) z
compare_kind p (Some x) (Some y) z e = go (same_kind x.0 y.0) e
  where
    go : (c : Bool) → (if c then Some (Some (kind.Int 1, truth (comparison_of (width_of x.0) p x.1 y.1))) else None) ≡ Some z → IsKind (kind.Int 1) z
    go true e = known_is (kind.Int 1) (truth (comparison_of (width_of x.0) p x.1 y.1)) z e
    go false e = absurd (none-some z e)
compare_kind p (Some x) None z e = poison (kind.Int 1) z e
compare_kind p None y z e = poison (kind.Int 1) z e

log_kind : (k : BitsKind) (x z : Outcome) → IsKind k x → log_outcome x ≡ Some z → IsKind k z
log_kind k None z h e = absurd (none-some z e)
log_kind k (Some x) z h e = let g = given_some (log_of (width_of x.0) x.1) (λ k. Some (Some (x.0, k))) z e in subst (λ k. IsKind k z) (h x refl) (known_is x.0 g.0 z g.2)

required_kind : (k : BitsKind) (x z : Outcome) → IsKind k x → required x ≡ Some z → IsKind k z
required_kind k None z h e = absurd (none-some z e)
required_kind k (Some x) z h e = go (x.1 == 0) e
  where
    go : (c : Bool) → (if c then None else Some (Some x)) ≡ Some z → IsKind k z
    go true e = absurd (none-some z e)
    go false e = λ y i. h y (same_Some _ _ e ∙ i)

constant_kind : (k : BitsKind) (n : ℕ) (z : Outcome) → constant_outcome k n ≡ Some z → IsKind k z
constant_kind k n z e = go (is_bits k n) e
  where
    go : (c : Bool) → given (if c then Some (k, n) else None) (λ b. Some (Some b)) ≡ Some z → IsKind k z
    go true e = known_is k n z e
    go false e = absurd (none-some z e)

module _ (es : List BitsKind) (env : List Outcome) (h : OfKinds es env) where
  at_kind : (i : ℕ) (x : Outcome) → slice_get env i ≡ Some x → IsKind (kind_at es i) x
  at_kind i x e y s = h.are i y (e ∙ ap (λ z. Some z) s)

  pair_step : (o : Arithmetic) (i j : ℕ) (z : Outcome) → step_of (step.Binary o i j) env ≡ Some z → IsKind (kind_at es i) z
  pair_step o i j z e =
      let g = given_some (slice_get env i) (λ x. given (slice_get env j) (λ y. pair_outcome o x y)) z e in
      let f = given_some (slice_get env j) (λ y. pair_outcome o g.0 y) z g.2 in
      pair_kind o (kind_at es i) g.0 f.0 z (at_kind i g.0 g.1) f.2

  extra_one : (ks : List BitsKind) (f : ExtraConstant) (z : Outcome) → step_of (extra_step ks f) env ≡ Some z → IsKind (extra_kind ks es f) z
  extra_one ks (extra.Literal l) z e = constant_kind (kind_at ks l.ty) _ z e
  extra_one ks (extra.SameAs i) z e = pair_step op.And i i z e

  number_one : (ks : List BitsKind) (n : ConstantExpression) (z : Outcome) → step_of (number_step ks n) env ≡ Some z → IsKind (number_kind ks es n) z
  number_one ks (number.Literal l) z e = constant_kind (kind_at ks l.ty) _ z e
  number_one ks (number.Width t) z e = constant_kind (kind_at ks t) _ z e
  number_one ks (number.Binary o i j) z e = pair_step o i j z e
  number_one ks (number.Compare q i j) z e =
      let g = given_some (slice_get env i) (λ x. given (slice_get env j) (λ y. compare_outcome q x y)) z e in
      let f = given_some (slice_get env j) (λ y. compare_outcome q g.0 y) z g.2 in
      compare_kind q g.0 f.0 z f.2
  number_one ks (number.Log2 i) z e = let g = given_some (slice_get env i) log_outcome z e in log_kind (kind_at es i) g.0 z (at_kind i g.0 g.1) g.2
  number_one ks (number.Require i) z e = let g = given_some (slice_get env i) required z e in required_kind (kind_at es i) g.0 z (at_kind i g.0 g.1) g.2

  -- the outcome has the kind of the result
  pub select_kind : (k : BitsKind) (c x y z : Outcome) → IsKind k x → IsKind k y → select_outcome c x y ≡ Some z → IsKind k z
  select_kind k None x y z hx hy e = poison k z e
  select_kind k (Some c) x y z hx hy e = go (same_kind c.0 (kind.Int 1)) e
    where
      chosen : (b : Bool) → Some (if b then y else x) ≡ Some z → IsKind k z
      chosen true e = λ w i. hy w (same_Some _ _ e ∙ i)
      chosen false e = λ w i. hx w (same_Some _ _ e ∙ i)

      go : (b : Bool) → (if b then Some (choice_of c.1 x y) else None) ≡ Some z → IsKind k z
      go true e = chosen (c.1 == 0) e
      go false e = absurd (none-some z e)

  pub resize_kind : (c : Cast) (k : BitsKind) (x z : Outcome) → resize_outcome c k x ≡ Some z → IsKind k z
  resize_kind c k x z e = go (is_width (width_of k)) e
    where
      any : (x : Outcome) → resize_any c k x ≡ Some z → IsKind k z
      any None e = poison k z e
      any (Some x) e = let g = given_some (cast_of c (width_of x.0) (width_of k) x.1) (λ b. Some (Some (k, b))) z e in known_is k g.0 z g.2

      go : (b : Bool) → (if b then resize_any c k x else None) ≡ Some z → IsKind k z
      go true e = any x e
      go false e = absurd (none-some z e)

  form_kind : (k : BitsKind) (f : Expression) (z : Outcome) → form_fits es k f ≡ true → step_of (form_step k f) env ≡ Some z → IsKind k z
  form_kind k (form.Binary o i j) z t e = subst (λ k. IsKind k z) (same_kinds (kind_at es i) k t) (pair_step o i j z e)
  form_kind k (form.Compare q i j) z t e =
      let g = given_some (slice_get env i) (λ x. given (slice_get env j) (λ y. compare_outcome q x y)) z e in
      let f = given_some (slice_get env j) (λ y. compare_outcome q g.0 y) z g.2 in
      subst (λ k. IsKind k z) (same_kinds (kind.Int 1) k t) (compare_kind q g.0 f.0 z f.2)
  form_kind k (form.Select c i j) z t e =
      let h = and_parts (same_kind (kind_at es i) k) (same_kind (kind_at es j) k) t in
      let b = given_some (slice_get env c) (λ b. given (slice_get env i) (λ x. given (slice_get env j) (λ y. select_outcome b x y))) z e in
      let g = given_some (slice_get env i) (λ x. given (slice_get env j) (λ y. select_outcome b.0 x y)) z b.2 in
      let f = given_some (slice_get env j) (λ y. select_outcome b.0 g.0 y) z g.2 in
      select_kind k b.0 g.0 f.0 z (subst (λ k. IsKind k g.0) (same_kinds (kind_at es i) k h.0) (at_kind i g.0 g.1)) (subst (λ k. IsKind k f.0) (same_kinds (kind_at es j) k h.1) (at_kind j f.0 f.1)) f.2
  form_kind k (form.IntegerCast c i) z t e = let g = given_some (slice_get env i) (λ x. resize_outcome c k x) z e in resize_kind c k g.0 z g.2
  form_kind k (form.IndexCast c i) z t e = let g = given_some (slice_get env i) (λ x. resize_outcome c k x) z e in resize_kind c k g.0 z g.2

  pub new_kind : (ks : List BitsKind) (w : NewValue) (z : Outcome) → new_fits ks es w ≡ true → step_of (new_step ks w) env ≡ Some z → IsKind (kind_at ks (new_type w)) z
  new_kind ks (new.Operation o) z t e = form_kind (kind_at ks o.ty) o.form z t e
  new_kind ks (new.Constant i ty) z t e = subst (λ k. IsKind k z) (same_kinds (kind_at es i) (kind_at ks ty) t) (pair_step op.And i i z e)

-- ---- in sequence
kinds_run : {X : Type 0} (st : X → Step) (f : List BitsKind → X → BitsKind) → ((es : List BitsKind) (env : List Outcome) → OfKinds es env → (x : X) (z : Outcome) → step_of (st x) env ≡ Some z → IsKind (f es x) z)
    → (xs : List X) (es : List BitsKind) (env new : List Outcome) → OfKinds es env → run (map st xs) env ≡ Some new → OfKinds (kinds_after f xs es) new
kinds_run st f one [] es env new h e = subst (λ d. OfKinds es d) (same_Some _ _ e) h
kinds_run st f one (x ∷ xs) es env new h e =
    let g = given_some (step_of (st x) env) (λ z. run (map st xs) (env ++ (z ∷ []))) new e in
    kinds_run st f one xs (es ++ (f es x ∷ [])) (env ++ (g.0 ∷ [])) new (push_kinds es env (f es x) g.0 h (one es env h x g.0 g.1)) g.2

pub extras_run : (ks : List BitsKind) (fs : List ExtraConstant) (es : List BitsKind) (env new : List Outcome) → OfKinds es env → run (map (extra_step ks) fs) env ≡ Some new → OfKinds (kinds_after (extra_kind ks) fs es) new
extras_run ks = kinds_run (extra_step ks) (extra_kind ks) (λ es env h x z e. extra_one es env h ks x z e)

pub numbers_run : (ks : List BitsKind) (ns : List ConstantExpression) (es : List BitsKind) (env new : List Outcome) → OfKinds es env → run (map (number_step ks) ns) env ≡ Some new → OfKinds (kinds_after (number_kind ks) ns es) new
numbers_run ks = kinds_run (number_step ks) (number_kind ks) (λ es env h x z e. number_one es env h ks x z e)
