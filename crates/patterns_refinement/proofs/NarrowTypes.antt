-- The instances of a pattern are equal at kinds that agree on all types that the pattern uses.
use Rattle.std.proofs.Common.{◌≡◌, ℕ, refl, ap, ◌∙◌, List, [], ◌∷◌, ◌++◌, map, Bool, true, ◌&&◌, None}
use Rattle.std.specs.Prelude.{if◌then◌else◌, is_some, nat_lt}
use Rattle.std.specs.List.{list_all}
use Rattle.std.proofs.lemmas.Bool.{and_parts}
use Rattle.ir_types.specs.declared.bits.BitsKind.{BitsKind}
use Rattle.ir_types.specs.Bits.{type_of, width_of}
use Rattle.ir_types.specs.Readings.{literal_bits}
use Rattle.ir_types.specs.Reasons.{is_width}
use Rattle.dialects_int.specs.Folds.{same_kind}
use Rattle.user_patterns_check.specs.declared.step.Step.TheVariants as step
use Rattle.user_patterns_data.specs.declared.pattern.TypeConstraint.{TypeConstraint}
use Rattle.user_patterns_data.specs.declared.pattern.TypeConstraint.TheVariants as requested
use Rattle.user_patterns_data.specs.declared.pattern.ExtraConstant.{ExtraConstant}
use Rattle.user_patterns_data.specs.declared.pattern.ExtraConstant.TheVariants as extra
use Rattle.user_patterns_data.specs.declared.pattern.Literal.{Literal}
use Rattle.user_patterns_data.specs.declared.pattern.NewValue.{NewValue}
use Rattle.user_patterns_data.specs.declared.pattern.NewValue.TheVariants as new
use Rattle.user_patterns_data.specs.declared.pattern.ConstantExpression.{ConstantExpression}
use Rattle.user_patterns_data.specs.declared.pattern.ConstantExpression.TheVariants as number
use Rattle.user_patterns_data.specs.declared.pattern.PatternOp.{PatternOp}
use Rattle.user_patterns_data.specs.Fitting.{bits_with, content_with, fits, form_step, extra_fits, extra_step, is_requested, is_integer, kind_at, new_step, number_fits, number_step, or_zero, pattern_op_step}
use Rattle.user_patterns_data.specs.Shapes.{PatternModel}
use Rattle.user_patterns_build.specs.CanBuild.{new_type}
use Rattle.patterns_refinement.specs.Applied.{extra_kind, kinds_after, kinds_given, kinds_matched, number_kind, pattern_op_kind}
use Rattle.patterns_refinement.specs.Passing.{form_takes, is_kinded_at, new_takes, news_take}
use Rattle.patterns_refinement.specs.UsedTypes.{requested_uses, extra_uses, new_uses, number_uses, pattern_op_uses, uses_only}
use Rattle.patterns_refinement.proofs.StrictForms.{same_mapped, same_tested}

after_same : {X : Type 0} (f g : List BitsKind → X → BitsKind) (test : X → Bool) → ((es : List BitsKind) (x : X) → test x ≡ true → f es x ≡ g es x) → (xs : List X) (es : List BitsKind) → list_all test xs ≡ true → kinds_after f xs es ≡ kinds_after g xs es
after_same f g test h [] es e = refl
after_same f g test h (x ∷ xs) es e =
    let q = and_parts (test x) (list_all test xs) e in
    ap (λ k. kinds_after f xs (es ++ (k ∷ []))) (h es x q.0) ∙ after_same f g test h xs (es ++ (g es x ∷ [])) q.1

-- all parts of the pattern use only types that pass a test
pub record Settled (ok : ℕ → Bool) (p : PatternModel) : Type 0 where
  pub values : list_all ok p.values ≡ true
  pub extra : list_all (extra_uses ok) p.extra ≡ true
  pub requested : list_all (requested_uses ok) p.type_constraints ≡ true
  pub given : list_all (number_uses ok) p.given ≡ true
  pub olds : list_all (pattern_op_uses ok) p.old ≡ true
  pub news : list_all (new_uses ok) p.new ≡ true

pub all_parts : (ok : ℕ → Bool) (p : PatternModel) → uses_only ok p ≡ true → Settled ok p
all_parts ok p settled =
    let a = and_parts (list_all ok p.values) _ settled in
    let b = and_parts (list_all (extra_uses ok) p.extra) _ a.1 in
    let c = and_parts (list_all (requested_uses ok) p.type_constraints) _ b.1 in
    let d = and_parts (list_all (number_uses ok) p.given) _ c.1 in
    let e = and_parts (list_all (pattern_op_uses ok) p.old) (list_all (new_uses ok) p.new) d.1 in
    record { values = a.0; extra = b.0; requested = c.0; given = d.0; olds = e.0; news = e.1 }

module _ (ok : ℕ → Bool) (p : PatternModel) (js ks : List BitsKind) (same : (t : ℕ) → ok t ≡ true → kind_at js t ≡ kind_at ks t) (settled : uses_only ok p ≡ true) where
  abbrev all : Settled ok p
  all = all_parts ok p settled

  -- ---- the instance of a check
  bits_same : (l : Literal) → ok l.ty ≡ true → bits_with js l ≡ bits_with ks l
  bits_same l e = ap (λ k. if is_width (width_of k) then literal_bits (type_of k) l.negative l.magnitude else None) (same l.ty e)

  written_same : (l : Literal) → ok l.ty ≡ true → step.Constant (kind_at js l.ty) (or_zero (bits_with js l)) ≡ step.Constant (kind_at ks l.ty) (or_zero (bits_with ks l))
  written_same l e = let k = same l.ty e in let b = bits_same l e in (λ i. step.Constant (k i) (or_zero (b i)))

  extra_same : (f : ExtraConstant) → extra_uses ok f ≡ true → extra_step js f ≡ extra_step ks f
  extra_same (extra.Literal l) e = written_same l e
  extra_same (extra.SameAs i) e = refl

  number_same : (n : ConstantExpression) → number_uses ok n ≡ true → number_step js n ≡ number_step ks n
  number_same (number.Literal l) e = written_same l e
  number_same (number.Width u) e = ap (λ k. number_step (k ∷ []) (number.Width 0)) (same u e)
  number_same (number.Binary o i j) e = refl
  number_same (number.Compare q i j) e = refl
  number_same (number.Log2 i) e = refl
  number_same (number.Require i) e = refl

  pattern_op_same : (o : PatternOp) → pattern_op_uses ok o ≡ true → pattern_op_step js o ≡ pattern_op_step ks o
  pattern_op_same o e = ap (λ k. form_step k o.form) (same o.ty e)

  new_same : (w : NewValue) → new_uses ok w ≡ true → new_step js w ≡ new_step ks w
  new_same (new.Operation o) e = pattern_op_same o e
  new_same (new.Constant i u) e = refl

  -- ---- the condition under which it may be applied
  literal_fits : (l : Literal) → ok l.ty ≡ true → extra_fits js (extra.Literal l) ≡ extra_fits ks (extra.Literal l)
  literal_fits l e = ap is_some (bits_same l e)

  extra_fit : (f : ExtraConstant) → extra_uses ok f ≡ true → extra_fits js f ≡ extra_fits ks f
  extra_fit (extra.Literal l) e = literal_fits l e
  extra_fit (extra.SameAs i) e = refl

  number_fit : (n : ConstantExpression) → number_uses ok n ≡ true → number_fits js n ≡ number_fits ks n
  number_fit (number.Literal l) e = literal_fits l e
  number_fit (number.Width u) e = refl
  number_fit (number.Binary o i j) e = refl
  number_fit (number.Compare q i j) e = refl
  number_fit (number.Log2 i) e = refl
  number_fit (number.Require i) e = refl

  requested_same : (a : TypeConstraint) → requested_uses ok a ≡ true → is_requested js a ≡ is_requested ks a
  requested_same (requested.Narrower s u) e =
      let q = and_parts (ok s) (ok u) e in
      let f = same s q.0 in
      let g = same u q.1 in
      (λ i. is_integer (f i) && (is_integer (g i) && nat_lt (width_of (f i)) (width_of (g i))))
  requested_same (requested.Integer u) e = ap is_integer (same u e)

  pub fits_same : fits js p ≡ fits ks p
  fits_same =
      let a = same_tested (is_requested js) (is_requested ks) (requested_uses ok) requested_same p.type_constraints all.requested in
      let f = same_tested (extra_fits js) (extra_fits ks) (extra_uses ok) extra_fit p.extra all.extra in
      let n = same_tested (number_fits js) (number_fits ks) (number_uses ok) number_fit p.given all.given in
      (λ i. a i && (f i && n i))

  pub content_same : content_with js p ≡ content_with ks p
  content_same =
      let e = fits_same in
      let v = same_mapped (kind_at js) (kind_at ks) ok same p.values all.values in
      let f = same_mapped (extra_step js) (extra_step ks) (extra_uses ok) extra_same p.extra all.extra in
      let g = same_mapped (number_step js) (number_step ks) (number_uses ok) number_same p.given all.given in
      let o = same_mapped (pattern_op_step js) (pattern_op_step ks) (pattern_op_uses ok) pattern_op_same p.old all.olds in
      let w = same_mapped (new_step js) (new_step ks) (new_uses ok) new_same p.new all.news in
      (λ i. record { applies = e i; value_types = v i; given = f i ++ g i; old = o i; old_result = p.root; new = w i; new_result = p.result })

  -- ---- new operations take their operands
  extra_of : (es : List BitsKind) (f : ExtraConstant) → extra_uses ok f ≡ true → extra_kind js es f ≡ extra_kind ks es f
  extra_of es (extra.Literal l) e = same l.ty e
  extra_of es (extra.SameAs i) e = refl

  number_of : (es : List BitsKind) (n : ConstantExpression) → number_uses ok n ≡ true → number_kind js es n ≡ number_kind ks es n
  number_of es (number.Literal l) e = same l.ty e
  number_of es (number.Width u) e = same u e
  number_of es (number.Binary o i j) e = refl
  number_of es (number.Compare q i j) e = refl
  number_of es (number.Log2 i) e = refl
  number_of es (number.Require i) e = refl

  matched_same : kinds_matched js p ≡ kinds_matched ks p
  matched_same =
      let v = same_mapped (kind_at js) (kind_at ks) ok same p.values all.values in
      ap (λ es. kinds_after (pattern_op_kind js) p.old (kinds_after (number_kind js) p.given (kinds_after (extra_kind js) p.extra es))) v
      ∙ ap (λ es. kinds_after (pattern_op_kind js) p.old (kinds_after (number_kind js) p.given es)) (after_same (extra_kind js) (extra_kind ks) (extra_uses ok) extra_of p.extra (map (kind_at ks) p.values) all.extra)
      ∙ ap (kinds_after (pattern_op_kind js) p.old) (after_same (number_kind js) (number_kind ks) (number_uses ok) number_of p.given (kinds_after (extra_kind ks) p.extra (map (kind_at ks) p.values)) all.given)
      ∙ after_same (pattern_op_kind js) (pattern_op_kind ks) (pattern_op_uses ok) (λ es o e. same o.ty e) p.old (kinds_given ks p) all.olds

  takes_same : (es : List BitsKind) (w : NewValue) → new_uses ok w ≡ true → new_takes js es w ≡ new_takes ks es w
  takes_same es (new.Operation o) e = ap (λ k. is_width (width_of k) && form_takes es k o.form) (same o.ty e)
  takes_same es (new.Constant i u) e = ap (same_kind (kind_at es i)) (same u e)

  news_same : (ws : List NewValue) (es : List BitsKind) → list_all (new_uses ok) ws ≡ true → news_take js es ws ≡ news_take ks es ws
  news_same [] es e = refl
  news_same (w ∷ ws) es e =
      let q = and_parts (new_uses ok w) (list_all (new_uses ok) ws) e in
      let one = takes_same es w q.0 in
      let more = ap (λ k. news_take js (es ++ (k ∷ [])) ws) (same (new_type w) q.0) ∙ news_same ws (es ++ (kind_at ks (new_type w) ∷ [])) q.1 in
      (λ i. one i && more i)

  pub kinded_same : is_kinded_at js p ≡ is_kinded_at ks p
  kinded_same = ap (λ es. news_take js es p.new) matched_same ∙ news_same p.new (kinds_matched ks p) all.news
