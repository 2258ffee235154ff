-- Equal types, and the numbers that they get.
use Rattle.std.proofs.Common.{◌≡◌, ◌∙◌, ℕ, zero, suc, ◌<◌, Bool, true, false, ◌&&◌, nat_lt, if◌then◌else◌, List, [], ◌∷◌, ◌++◌, length, map, get_or, Option, Some, None, refl, sym, ap, subst, true≢false, arith}
use Rattle.std.specs.List.{list_all}
use Rattle.std.proofs.lemmas.Bool.{and_parts, eq-eqb, eqb-true, lt-ltb, ltb-true}
use Rattle.std.proofs.lemmas.Option.{none-some, same_Some}
use Rattle.std.proofs.lemmas.List.{get_or-map}
use Rattle.ir_types.specs.declared.bits.BitsKind.{BitsKind}
use Rattle.ir_types.specs.declared.bits.BitsKind.TheVariants as bits
use Rattle.dialects_int.proofs.KnownOperands.{same_itself as kind_itself}
use Rattle.user_patterns_check.specs.declared.step.Step.{Step}
use Rattle.user_patterns_check.specs.Contents.{Content}
use Rattle.user_patterns_check.proofs.Keeping.{same_kinds}
use Rattle.user_patterns_data.specs.declared.pattern.PatternType.{PatternType}
use Rattle.user_patterns_data.specs.declared.pattern.PatternType.TheVariants as ty
use Rattle.user_patterns_data.specs.declared.pattern.PatternOp.{PatternOp}
use Rattle.user_patterns_data.specs.declared.pattern.Literal.{Literal}
use Rattle.user_patterns_data.specs.declared.pattern.ExtraConstant.{ExtraConstant}
use Rattle.user_patterns_data.specs.declared.pattern.ExtraConstant.TheVariants as extra
use Rattle.user_patterns_data.specs.declared.pattern.ConstantExpression.{ConstantExpression}
use Rattle.user_patterns_data.specs.declared.pattern.ConstantExpression.TheVariants as number
use Rattle.user_patterns_data.specs.declared.pattern.NewValue.{NewValue}
use Rattle.user_patterns_data.specs.declared.pattern.NewValue.TheVariants as new
use Rattle.user_patterns_data.specs.declared.pattern.TypeConstraint.{TypeConstraint}
use Rattle.user_patterns_data.specs.declared.pattern.TypeConstraint.TheVariants as type_constraints
use Rattle.user_patterns_data.specs.Fitting.{bits_with, content_at, content_with, fits, form_step, extra_fits, extra_step, is_requested, is_integer, is_literal_of, kind_at, kind_with, kinds_with, new_step, number_fits, number_step, pattern_op_step, width_step, written_step}
use Rattle.user_patterns_data.specs.Shapes.{PatternModel}
use Rattle.user_patterns_data.specs.WellFormed.{is_well_formed}
use Rattle.user_patterns_build.specs.CanBuild.{can_build}
use Rattle.user_patterns_build.specs.Unified.{HaveOneNumber, IsReady, NumbersTheSame, StaysAtWidths, requested_in, first_same, extra_in, given_in, if_ready, is_same, kind_in, literal_in, new_in, number_in, pattern_op_in, ready, united}

-- ---- equal types

are_one : (j k : PatternType) → is_same j k ≡ true → j ≡ k
are_one (ty.Concrete a) (ty.Concrete b) e = ap ty.Concrete (same_kinds a b e)
are_one (ty.Concrete a) (ty.Variable j) e = absurd (true≢false (sym e))
are_one (ty.Variable i) (ty.Concrete b) e = absurd (true≢false (sym e))
are_one (ty.Variable i) (ty.Variable j) e = ap ty.Variable (eqb-true i j e)

same_itself : (k : PatternType) → is_same k k ≡ true
same_itself (ty.Concrete b) = kind_itself b
same_itself (ty.Variable i) = eq-eqb i i refl

-- ---- their numbers

abbrev Numbers : List PatternType → ℕ → PatternType → Type 0
Numbers ks i k = (i < length ks) × (kind_in ks i ≡ k)

first_or_later : (j : PatternType) (js : List PatternType) (k : PatternType) (b : Bool) → is_same k j ≡ b → (b ≡ false → Numbers js (first_same k js) k)
    → Numbers (j ∷ js) (if b then 0 else suc (first_same k js)) k
first_or_later j js k true e more = (omega arith, sym (are_one k j e))
first_or_later j js k false e more = let m = more refl in (omega (arith, m.0), m.1)

not_this : (j k : PatternType) → j ≡ k → is_same k j ≡ false → ⊥
not_this j k e f = true≢false (sym (subst (λ z. is_same k z ≡ true) (sym e) (same_itself k)) ∙ f)

found : (ks : List PatternType) (t : ℕ) (k : PatternType) → t < length ks → kind_in ks t ≡ k → Numbers ks (first_same k ks) k
found [] t k l e = absurd (omega (arith, l))
found (j ∷ js) zero k l e = first_or_later j js k (is_same k j) refl (λ f. absurd (not_this j k e f))
found (j ∷ js) (suc t) k l e = first_or_later j js k (is_same k j) refl (λ f. found js t k (omega (arith, l)) e)

chosen : (ks : List PatternType) (t : ℕ) → t < length ks → number_in ks t ≡ first_same (kind_in ks t) ks
chosen ks t l = ap (λ (b : Bool). if b then first_same (kind_in ks t) ks else t) (lt-ltb t (length ks) l)

pub numbers_the_same : NumbersTheSame
numbers_the_same ks i l = subst (λ (n : ℕ). Numbers ks n (kind_in ks i)) (sym (chosen ks i l)) (found ks i (kind_in ks i) l refl)

pub have_one_number : HaveOneNumber
have_one_number ks i j li lj e =
    chosen ks i li ∙ ap (λ (k : PatternType). first_same k ks) (are_one (kind_in ks i) (kind_in ks j) e) ∙ sym (chosen ks j lj)

-- ---- kinds at widths

module _ (ws : List ℕ) (ks : List PatternType) where
  kinds_at : List BitsKind
  kinds_at = kinds_with ws ks

  at_place : (t : ℕ) → t < length ks → kind_at (kinds_with ws ks) t ≡ kind_with ws (kind_in ks t)
  at_place t l = get_or-map (kind_with ws) ks t (ty.Concrete bits.Index) (bits.Int 0) l

  within_stays : (t : ℕ) → t < length ks → kind_at (kinds_with ws ks) (number_in ks t) ≡ kind_at (kinds_with ws ks) t
  within_stays t l =
      let n = numbers_the_same ks t l in
      at_place (number_in ks t) n.0 ∙ ap (kind_with ws) n.1 ∙ sym (at_place t l)

  by_test : (t : ℕ) (b : Bool) → nat_lt t (length ks) ≡ b → kind_at (kinds_with ws ks) (number_in ks t) ≡ kind_at (kinds_with ws ks) t
  by_test t true e = within_stays t (ltb-true t (length ks) e)
  by_test t false e = ap (λ (c : Bool). kind_at (kinds_with ws ks) (if c then first_same (kind_in ks t) ks else t)) e

  pub kind_stays : (t : ℕ) → kind_at (kinds_with ws ks) (number_in ks t) ≡ kind_at (kinds_with ws ks) t
  kind_stays t = by_test t (nat_lt t (length ks)) refl

  -- ---- parts at widths

  written_stays : (l : Literal) → written_step (kinds_with ws ks) (literal_in ks l) ≡ written_step (kinds_with ws ks) l
  written_stays l = rw (kind_stays l.ty) refl

  literal_stays : (l : Literal) → is_literal_of (kinds_with ws ks) (literal_in ks l) ≡ is_literal_of (kinds_with ws ks) l
  literal_stays l = rw (kind_stays l.ty) refl

  extra_stays : (f : ExtraConstant) → extra_step (kinds_with ws ks) (extra_in ks f) ≡ extra_step (kinds_with ws ks) f
  extra_stays (extra.Literal l) = written_stays l
  extra_stays (extra.SameAs i) = refl

  extra_fits_stays : (f : ExtraConstant) → extra_fits (kinds_with ws ks) (extra_in ks f) ≡ extra_fits (kinds_with ws ks) f
  extra_fits_stays (extra.Literal l) = literal_stays l
  extra_fits_stays (extra.SameAs i) = refl

  given_stays : (n : ConstantExpression) → number_step (kinds_with ws ks) (given_in ks n) ≡ number_step (kinds_with ws ks) n
  given_stays (number.Literal l) = written_stays l
  given_stays (number.Width t) = ap width_step (kind_stays t)
  given_stays (number.Binary o i j) = refl
  given_stays (number.Compare p i j) = refl
  given_stays (number.Log2 i) = refl
  given_stays (number.Require i) = refl

  given_fits_stays : (n : ConstantExpression) → number_fits (kinds_with ws ks) (given_in ks n) ≡ number_fits (kinds_with ws ks) n
  given_fits_stays (number.Literal l) = literal_stays l
  given_fits_stays (number.Width t) = refl
  given_fits_stays (number.Binary o i j) = refl
  given_fits_stays (number.Compare p i j) = refl
  given_fits_stays (number.Log2 i) = refl
  given_fits_stays (number.Require i) = refl

  requested_stays : (a : TypeConstraint) → is_requested (kinds_with ws ks) (requested_in ks a) ≡ is_requested (kinds_with ws ks) a
  requested_stays (type_constraints.Narrower s t) = rw (kind_stays s, kind_stays t) refl
  requested_stays (type_constraints.Integer t) = ap is_integer (kind_stays t)

  pattern_op_stays : (p : PatternOp) → pattern_op_step (kinds_with ws ks) (pattern_op_in ks p) ≡ pattern_op_step (kinds_with ws ks) p
  pattern_op_stays p = ap (λ (k : BitsKind). form_step k p.form) (kind_stays p.ty)

  new_stays : (w : NewValue) → new_step (kinds_with ws ks) (new_in ks w) ≡ new_step (kinds_with ws ks) w
  new_stays (new.Operation p) = pattern_op_stays p
  new_stays (new.Constant i t) = refl

-- ---- lists

maps_alike : {X Y : Type 0} (f : X → Y) (g : X → X) → ((x : X) → f (g x) ≡ f x) → (xs : List X) → map f (map g xs) ≡ map f xs
maps_alike f g h [] = refl
maps_alike {X} {Y} f g h (x ∷ xs) = (λ i. h x i ∷ maps_alike f g h xs i)

all_alike : {X : Type 0} (f : X → Bool) (g : X → X) → ((x : X) → f (g x) ≡ f x) → (xs : List X) → list_all f (map g xs) ≡ list_all f xs
all_alike f g h [] = refl
all_alike f g h (x ∷ xs) = (λ i. h x i && all_alike f g h xs i)

-- ---- a pattern at widths

module _ (p : PatternModel) (ws : List ℕ) where
  values_stay : map (kind_at (kinds_with ws p.value_types)) (map (number_in p.value_types) p.values) ≡ map (kind_at (kinds_with ws p.value_types)) p.values
  values_stay = maps_alike (kind_at (kinds_with ws p.value_types)) (number_in p.value_types) (kind_stays ws p.value_types) p.values

  given_steps_stay : map (extra_step (kinds_with ws p.value_types)) (map (extra_in p.value_types) p.extra) ++ map (number_step (kinds_with ws p.value_types)) (map (given_in p.value_types) p.given)
      ≡ map (extra_step (kinds_with ws p.value_types)) p.extra ++ map (number_step (kinds_with ws p.value_types)) p.given
  given_steps_stay = (λ i.
      maps_alike (extra_step (kinds_with ws p.value_types)) (extra_in p.value_types) (extra_stays ws p.value_types) p.extra i
      ++ maps_alike (number_step (kinds_with ws p.value_types)) (given_in p.value_types) (given_stays ws p.value_types) p.given i)

  fits_stays : fits (kinds_with ws p.value_types) (united p) ≡ fits (kinds_with ws p.value_types) p
  fits_stays = (λ i.
      all_alike (is_requested (kinds_with ws p.value_types)) (requested_in p.value_types) (requested_stays ws p.value_types) p.type_constraints i
      && (all_alike (extra_fits (kinds_with ws p.value_types)) (extra_in p.value_types) (extra_fits_stays ws p.value_types) p.extra i
      && all_alike (number_fits (kinds_with ws p.value_types)) (given_in p.value_types) (given_fits_stays ws p.value_types) p.given i))

  old_stays : map (pattern_op_step (kinds_with ws p.value_types)) (map (pattern_op_in p.value_types) p.old) ≡ map (pattern_op_step (kinds_with ws p.value_types)) p.old
  old_stays = maps_alike (pattern_op_step (kinds_with ws p.value_types)) (pattern_op_in p.value_types) (pattern_op_stays ws p.value_types) p.old

  new_steps_stay : map (new_step (kinds_with ws p.value_types)) (map (new_in p.value_types) p.new) ≡ map (new_step (kinds_with ws p.value_types)) p.new
  new_steps_stay = maps_alike (new_step (kinds_with ws p.value_types)) (new_in p.value_types) (new_stays ws p.value_types) p.new

pub stays_at_widths : StaysAtWidths
stays_at_widths p ws = (λ i.
    record {
      applies = fits_stays p ws i;
      value_types = values_stay p ws i;
      given = given_steps_stay p ws i;
      old = old_stays p ws i;
      old_result = p.root;
      new = new_steps_stay p ws i;
      new_result = p.result;
    })

-- ---- ready patterns

where_tested : (u q : PatternModel) (b : Bool) → (if b then Some u else None) ≡ Some q → (b ≡ true) × (u ≡ q)
where_tested u q true e = (refl, same_Some u q e)
where_tested u q false e = absurd (none-some q e)

pub is_ready : IsReady
unfolding ready
is_ready p q e =
    let t = where_tested (united p) q (is_well_formed (united p) && can_build (united p)) e in
    let h = and_parts (is_well_formed (united p)) (can_build (united p)) t.0 in
    (sym t.1, subst (λ (s : PatternModel). is_well_formed s ≡ true) t.1 h.0, subst (λ (s : PatternModel). can_build s ≡ true) t.1 h.1)
