-- The steps of a pattern of one type that computes bit by bit: bitwise steps on known values of one kind.
use Rattle.std.proofs.Common.{◌≡◌, ℕ, ◌^◌, ◌<◌, refl, ap, sym, ◌∙◌, List, [], ◌∷◌, ◌++◌, map, Bool, true, false, true≢false, Option, Some, None, option_map, slice_get}
use Rattle.std.specs.Prelude.{◌==◌, if◌then◌else◌, is_some}
use Rattle.std.specs.List.{list_all}
use Rattle.std.proofs.Math.Path.{ap₂}
use Rattle.std.proofs.lemmas.Bool.{and_from, and_parts, eqb-true, eq-eqb}
use Rattle.std.proofs.lemmas.List.{append_assoc, append-nil, map-append}
use Rattle.std.proofs.lemmas.Option.{slice_get-map}
use Rattle.ir_types.specs.declared.bits.BitsKind.{BitsKind}
use Rattle.ir_types.specs.Bits.{bits_of, type_of, width_of}
use Rattle.ir_types.specs.Readings.{literal_bits}
use Rattle.ir_types.specs.Reasons.{is_width}
use Rattle.dialects_int.specs.Folds.{same_kind}
use Rattle.dialects_int.proofs.KnownOperands.{same_itself}
use Rattle.user_patterns_check.specs.declared.step.Step.{Step}
use Rattle.user_patterns_check.specs.declared.step.Step.TheVariants as step
use Rattle.user_patterns_check.specs.Contents.{Content}
use Rattle.user_patterns_check.specs.Checks.{bound, counts, keeps, new_refines, old_ran, old_refined, old_steps, shown}
use Rattle.user_patterns_check.specs.Outcomes.{given, run}
use Rattle.user_patterns_data.specs.declared.pattern.Expression.{Expression}
use Rattle.user_patterns_data.specs.declared.pattern.Expression.TheVariants as form
use Rattle.user_patterns_data.specs.declared.pattern.PatternOp.{PatternOp}
use Rattle.user_patterns_data.specs.declared.pattern.Literal.{Literal}
use Rattle.user_patterns_data.specs.declared.pattern.ExtraConstant.{ExtraConstant}
use Rattle.user_patterns_data.specs.declared.pattern.ExtraConstant.TheVariants as extra
use Rattle.user_patterns_data.specs.declared.pattern.ConstantExpression.{ConstantExpression}
use Rattle.user_patterns_data.specs.declared.pattern.ConstantExpression.TheVariants as number
use Rattle.user_patterns_data.specs.declared.pattern.NewValue.{NewValue}
use Rattle.user_patterns_data.specs.declared.pattern.NewValue.TheVariants as new
use Rattle.user_patterns_data.specs.declared.pattern.TypeConstraint.{TypeConstraint}
use Rattle.user_patterns_data.specs.Fitting.{bits_with, content_with, fits, form_step, extra_fits, extra_step, is_requested, is_literal_of, kind_at, new_step, number_fits, number_step, or_zero, pattern_op_step, written_step}
use Rattle.user_patterns_data.specs.Shapes.{PatternModel}
use Rattle.user_patterns_widths.specs.AllWidths.{form_is_bitwise, extra_has, extra_is_bitwise, is_none_requested, is_uniform, new_has, new_is_bitwise, number_has, number_is_bitwise, pattern_op_has, pattern_op_is_bitwise}
use Rattle.user_patterns_widths.proofs.BitValues.{by_and, uniform, uniform_literal, way_back, way_of, width_some}
use Rattle.user_patterns_widths.proofs.BitRuns.{BitStep, are_bits, as_known, constant, known, known_more, pair, run_made, step_at, values_made}

-- values below these bounds: the same as `AreBelow` of `Cases`
abbrev pub AreUnder : List ℕ → List ℕ → Type 0
AreUnder [] [] = Unit {0}
AreUnder (b ∷ bs) (v ∷ vs) = (v < b) × AreUnder bs vs
AreUnder _ _ = ⊥

-- ---- a pattern of one type that computes bit by bit
pub record IsBitwise (t : ℕ) (p : PatternModel) : Type 0 where
  pub values : list_all (λ v. v == t) p.values ≡ true
  pub extra_of : list_all (extra_has t) p.extra ≡ true
  pub given_of : list_all (number_has t) p.given ≡ true
  pub old_of : list_all (pattern_op_has t) p.old ≡ true
  pub new_of : list_all (new_has t) p.new ≡ true
  pub none_requested : is_none_requested p.type_constraints ≡ true
  pub extra_are : list_all extra_is_bitwise p.extra ≡ true
  pub given_are : list_all number_is_bitwise p.given ≡ true
  pub old_are : list_all pattern_op_is_bitwise p.old ≡ true
  pub new_are : list_all new_is_bitwise p.new ≡ true

-- ---- its steps
abbrev pub extra_bits : ExtraConstant → BitStep
extra_bits (extra.Literal l) = constant l.negative
extra_bits (extra.SameAs i) = pair by_and i i

abbrev pub number_bits : ConstantExpression → BitStep
number_bits (number.Literal l) = constant l.negative
number_bits (number.Binary o i j) = pair (way_of o) i j
number_bits _ = constant false

abbrev pub form_bits : Expression → BitStep
form_bits (form.Binary o i j) = pair (way_of o) i j
form_bits _ = constant false

abbrev pub pattern_op_bits : PatternOp → BitStep
pattern_op_bits o = form_bits o.form

abbrev pub new_bits : NewValue → BitStep
new_bits (new.Operation o) = pattern_op_bits o
new_bits (new.Constant i t) = pair by_and i i

abbrev pub given_bits : PatternModel → List BitStep
given_bits p = map extra_bits p.extra ++ map number_bits p.given

-- the environment after the old steps at these values, and the result of the new side
abbrev pub olds_made : PatternModel → ℕ → List ℕ → Option (List ℕ)
olds_made p w values = given (values_made w (given_bits p) values) (values_made w (map pattern_op_bits p.old))

abbrev pub shown_made : PatternModel → ℕ → List ℕ → Option ℕ
shown_made p w vs = given (values_made w (map new_bits p.new) vs) (λ us. slice_get us p.result)

-- the pattern refines at these values
abbrev pub Keeps : PatternModel → ℕ → List ℕ → Type 0
Keeps p w values = (vs : List ℕ) (x : ℕ) → olds_made p w values ≡ Some vs → slice_get vs p.root ≡ Some x → shown_made p w vs ≡ Some x

-- ---- at kinds
module _ (ks : List BitsKind) (t : ℕ) (wide : is_width (width_of (kind_at ks t)) ≡ true) where
  abbrev k : BitsKind
  k = kind_at ks t

  abbrev w : ℕ
  w = width_of k

  -- a literal whose bits are all equal
  literal_known : (l : Literal) → (l.ty == t) ≡ true → is_uniform l ≡ true → bits_with ks l ≡ Some (uniform l.negative w)
  literal_known l has is =
      ap (λ u. if is_width (width_of (kind_at ks u)) then literal_bits (type_of (kind_at ks u)) l.negative l.magnitude else None) (eqb-true l.ty t has)
      ∙ ap (λ c. if c then literal_bits (type_of k) l.negative l.magnitude else None) wide
      ∙ uniform_literal k l.negative l.magnitude (width_some w wide) is

  written_alike : (l : Literal) → (l.ty == t) ≡ true → is_uniform l ≡ true → written_step ks l ≡ step.Constant k (uniform l.negative w)
  written_alike l has is = ap (λ u. step.Constant (kind_at ks u) (or_zero (bits_with ks l))) (eqb-true l.ty t has) ∙ ap (λ r. step.Constant k (or_zero r)) (literal_known l has is)

  literal_fits : (l : Literal) → (l.ty == t) ≡ true → is_uniform l ≡ true → is_literal_of ks l ≡ true
  literal_fits l has is = ap is_some (literal_known l has is)

  extra_alike : (f : ExtraConstant) → extra_has t f ≡ true → extra_is_bitwise f ≡ true → extra_step ks f ≡ step_at k (extra_bits f)
  extra_alike (extra.Literal l) has is = written_alike l has is
  extra_alike (extra.SameAs i) has is = refl

  extra_fitting : (f : ExtraConstant) → extra_has t f ≡ true → extra_is_bitwise f ≡ true → extra_fits ks f ≡ true
  extra_fitting (extra.Literal l) has is = literal_fits l has is
  extra_fitting (extra.SameAs i) has is = refl

  number_alike : (n : ConstantExpression) → number_has t n ≡ true → number_is_bitwise n ≡ true → number_step ks n ≡ step_at k (number_bits n)
  number_alike (number.Literal l) has is = written_alike l has is
  number_alike (number.Binary o i j) has is = ap (λ o. step.Binary o i j) (sym (way_back o is))
  number_alike _ has is = absurd (true≢false (sym is))

  number_fitting : (n : ConstantExpression) → number_has t n ≡ true → number_is_bitwise n ≡ true → number_fits ks n ≡ true
  number_fitting (number.Literal l) has is = literal_fits l has is
  number_fitting (number.Binary o i j) has is = refl
  number_fitting _ has is = absurd (true≢false (sym is))

  form_alike : (j : BitsKind) (f : Expression) → form_is_bitwise f ≡ true → form_step j f ≡ step_at k (form_bits f)
  form_alike j (form.Binary o i l) is = ap (λ o. step.Binary o i l) (sym (way_back o is))
  form_alike j _ is = absurd (true≢false (sym is))

  pattern_op_alike : (o : PatternOp) → pattern_op_has t o ≡ true → pattern_op_is_bitwise o ≡ true → pattern_op_step ks o ≡ step_at k (pattern_op_bits o)
  pattern_op_alike o has is = form_alike (kind_at ks o.ty) o.form is

  new_alike : (n : NewValue) → new_has t n ≡ true → new_is_bitwise n ≡ true → new_step ks n ≡ step_at k (new_bits n)
  new_alike (new.Operation o) has is = pattern_op_alike o has is
  new_alike (new.Constant i u) has is = refl

  all_alike : {X : Type 0} (f : X → Step) (g : X → BitStep) (has is : X → Bool) → ((x : X) → has x ≡ true → is x ≡ true → f x ≡ step_at k (g x))
      → (xs : List X) → list_all has xs ≡ true → list_all is xs ≡ true → map f xs ≡ map (step_at k) (map g xs)
  all_alike f g has is alike [] h e = refl
  all_alike f g has is alike (x ∷ xs) h e =
      let a = and_parts (has x) (list_all has xs) h in
      let b = and_parts (is x) (list_all is xs) e in
      ap₂ ◌∷◌ (alike x a.0 b.0) (all_alike f g has is alike xs a.1 b.1)

  all_fit : {X : Type 0} (fits_in has is : X → Bool) → ((x : X) → has x ≡ true → is x ≡ true → fits_in x ≡ true)
      → (xs : List X) → list_all has xs ≡ true → list_all is xs ≡ true → list_all fits_in xs ≡ true
  all_fit fits_in has is each [] h e = refl
  all_fit fits_in has is each (x ∷ xs) h e =
      let a = and_parts (has x) (list_all has xs) h in
      let b = and_parts (is x) (list_all is xs) e in
      and_from (fits_in x) (list_all fits_in xs) (each x a.0 b.0) (all_fit fits_in has is each xs a.1 b.1)

  -- the values of the pattern's variables
  bound_known : (tys : List ℕ) → list_all (λ v. v == t) tys ≡ true → (values : List ℕ) → AreUnder (map (λ j. 2 ^ width_of j) (map (kind_at ks) tys)) values
      → (us : List ℕ) → bound (map (kind_at ks) tys) values (known k us) ≡ Some (known k (us ++ values))
  bound_known [] h [] l us = ap (λ vs. Some (known k vs)) (sym (append-nil us))
  bound_known [] h (v ∷ vs) l us = absurd l
  bound_known (ty ∷ tys) h [] l us = absurd l
  bound_known (ty ∷ tys) h (v ∷ vs) l us =
      let a = and_parts (ty == t) (list_all (λ v. v == t) tys) h in
      let low : v < 2 ^ w = rw (eqb-true ty t a.0) at l.0 in
      ap (λ u. given (bits_of (kind_at ks u) v) (λ b. bound (map (kind_at ks) tys) vs (known k us ++ (Some b ∷ [])))) (eqb-true ty t a.0)
      ∙ ap (λ o. given o (λ b. bound (map (kind_at ks) tys) vs (known k us ++ (Some b ∷ [])))) (are_bits k wide v low)
      ∙ ap (bound (map (kind_at ks) tys) vs) (known_more k us v)
      ∙ bound_known tys a.1 vs l.1 (us ++ (v ∷ []))
      ∙ ap (λ vs. Some (known k vs)) (append_assoc us (v ∷ []) vs)

  module _ (p : PatternModel) (is : IsBitwise t p) where
    abbrev content : Content
    content = content_with ks p

    none_there : (l : List TypeConstraint) → is_none_requested l ≡ true → list_all (is_requested ks) l ≡ true
    none_there [] e = refl
    none_there (a ∷ l) e = absurd (true≢false (sym e))

    pub applied : fits ks p ≡ true
    applied =
        and_from (list_all (is_requested ks) p.type_constraints) _ (none_there p.type_constraints is.none_requested)
        (and_from (list_all (extra_fits ks) p.extra) _ (all_fit (extra_fits ks) (extra_has t) extra_is_bitwise extra_fitting p.extra is.extra_of is.extra_are)
        (all_fit (number_fits ks) (number_has t) number_is_bitwise number_fitting p.given is.given_of is.given_are))

    given_alike : content.given ≡ map (step_at k) (given_bits p)
    given_alike =
        ap₂ ◌++◌ (all_alike (extra_step ks) extra_bits (extra_has t) extra_is_bitwise extra_alike p.extra is.extra_of is.extra_are)
        (all_alike (number_step ks) number_bits (number_has t) number_is_bitwise number_alike p.given is.given_of is.given_are)
        ∙ sym (map-append (step_at k) (map extra_bits p.extra) (map number_bits p.given))

    old_alike : content.old ≡ map (step_at k) (map pattern_op_bits p.old)
    old_alike = all_alike (pattern_op_step ks) pattern_op_bits (pattern_op_has t) pattern_op_is_bitwise pattern_op_alike p.old is.old_of is.old_are

    new_same : content.new ≡ map (step_at k) (map new_bits p.new)
    new_same = all_alike (new_step ks) new_bits (new_has t) new_is_bitwise new_alike p.new is.new_of is.new_are

    -- the environment after the old steps
    trailing : (ss : List BitStep) (r : Option (List ℕ)) → given (option_map (known k) r) (run (map (step_at k) ss)) ≡ option_map (known k) (given r (values_made w ss))
    trailing ss None = refl
    trailing ss (Some vs) = run_made k wide ss vs

    pub olds_known : (values : List ℕ) → AreUnder (counts content) values → old_steps content values [] ≡ option_map (known k) (olds_made p w values)
    olds_known values l =
        ap (λ c. if c then given (given (bound content.value_types values []) (run content.given)) (run content.old) else None) applied
        ∙ ap (λ b. given (given b (run content.given)) (run content.old)) (bound_known p.values is.values values l [])
        ∙ ap (λ ss. given (run ss (known k values)) (run content.old)) given_alike
        ∙ ap (λ r. given r (run content.old)) (run_made k wide (given_bits p) values)
        ∙ ap (λ ss. given (option_map (known k) (values_made w (given_bits p) values)) (run ss)) old_alike
        ∙ trailing (map pattern_op_bits p.old) (values_made w (given_bits p) values)

    -- the result of the new side
    shown_at : (r : Option (List ℕ)) → shown p.result (option_map (known k) r) ≡ option_map (as_known k) (given r (λ us. slice_get us p.result))
    shown_at None = refl
    shown_at (Some us) = slice_get-map (as_known k) us p.result

    shown_known : (vs : List ℕ) → shown p.result (run content.new (known k vs)) ≡ option_map (as_known k) (shown_made p w vs)
    shown_known vs =
        ap (λ ss. shown p.result (run ss (known k vs))) new_same
        ∙ ap (shown p.result) (run_made k wide (map new_bits p.new) vs)
        ∙ shown_at (values_made w (map new_bits p.new) vs)

    -- the pattern refines at these values, as it does for the numbers
    module _ (values : List ℕ) (low : AreUnder (counts content) values) where
      refines_itself : (x : ℕ) → new_refines (as_known k x) (Some (as_known k x)) ≡ true
      refines_itself x = and_from (same_kind k k) (x == x) (same_itself k) (eq-eqb x x refl)

      pub keeps_from : Keeps p w values → keeps content values ≡ true
      keeps_from kept = ap (old_ran content) (olds_known values low) ∙ on (olds_made p w values) refl
        where
          at : (vs : List ℕ) → olds_made p w values ≡ Some vs → (o : Option ℕ) → slice_get vs p.root ≡ o → old_refined content (known k vs) (option_map (as_known k) o) ≡ true
          at vs e None i = refl
          at vs e (Some x) i = ap (new_refines (as_known k x)) (shown_known vs ∙ ap (option_map (as_known k)) (kept vs x e i)) ∙ refines_itself x

          on : (r : Option (List ℕ)) → olds_made p w values ≡ r → old_ran content (option_map (known k) r) ≡ true
          on None e = refl
          on (Some vs) e = ap (old_refined content (known k vs)) (slice_get-map (as_known k) vs p.root) ∙ at vs e (slice_get vs p.root) refl

      pub keeps_to : keeps content values ≡ true → Keeps p w values
      keeps_to kept vs x e i =
          same_as (shown_made p w vs)
          (sym (ap (new_refines (as_known k x)) (shown_known vs))
          ∙ sym (ap (old_refined content (known k vs)) (slice_get-map (as_known k) vs p.root ∙ ap (option_map (as_known k)) i))
          ∙ sym (ap (old_ran content) (olds_known values low ∙ ap (option_map (known k)) e))
          ∙ kept)
        where
          same_as : (o : Option ℕ) → new_refines (as_known k x) (option_map (as_known k) o) ≡ true → o ≡ Some x
          same_as None e = absurd (true≢false (sym e))
          same_as (Some y) e = ap Some (sym (eqb-true x y (and_parts (same_kind k k) (x == y) e).1))
