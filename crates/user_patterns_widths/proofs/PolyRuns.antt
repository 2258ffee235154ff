-- The values after a pattern's steps are those of their polynomials.
use Rattle.std.proofs.Common.{◌≡◌, ℕ, ◌==◌, List, [], ◌∷◌, ◌++◌, length, map, Bool, true, false, if◌then◌else◌, Option, Some, None, sym, ap, refl, ◌∙◌, subst}
use Rattle.std.specs.List.{list_all}
use Rattle.std.proofs.lemmas.Bool.{and_parts, eqb-true}
use Rattle.std.proofs.lemmas.Option.{none-some, same_Some}
use Rattle.ir_types.specs.declared.bits.BitsKind.{BitsKind}
use Rattle.ir_types.specs.Bits.{bits_of, is_bits}
use Rattle.dialects_int.specs.Folds.{Known}
use Rattle.user_patterns_check.specs.Checks.{bound}
use Rattle.user_patterns_check.specs.Outcomes.{Outcome, given, run, step_of}
use Rattle.user_patterns_data.specs.declared.pattern.PatternOp.{PatternOp}
use Rattle.user_patterns_data.specs.declared.pattern.ExtraConstant.{ExtraConstant}
use Rattle.user_patterns_data.specs.declared.pattern.ConstantExpression.{ConstantExpression}
use Rattle.user_patterns_data.specs.declared.pattern.NewValue.{NewValue}
use Rattle.user_patterns_data.specs.Fitting.{extra_fits, extra_step, kind_at, new_step, number_fits, number_step, pattern_op_step}
use Rattle.user_patterns_widths.specs.Polynomials.{value_at}
use Rattle.user_patterns_widths.specs.AllWidths.{Formal, formal_form, formal_extra, formal_extras, formal_new, formal_news, formal_number, formal_numbers, formal_olds, formal_values, extra_has, number_has}
use Rattle.user_patterns_widths.proofs.PolyPlaces.{AllStand, IsPreceding, preceding_itself, preceding_of_steps, preceding_shorter, given_some, number_at, stand_more}
use Rattle.user_patterns_widths.proofs.PolyOutcomes.{Gives}
use Rattle.user_patterns_widths.proofs.PolySteps.{IsKnown, form_gives, extra_is_valid, gave, new_gives, next_stands, number_is_valid}

-- ---- values

bits_known : (k : BitsKind) (v : ℕ) (b : Known) → bits_of k v ≡ Some b → IsKnown k (Some b)
bits_known k v b e = go (is_bits k v) refl e
  where
    go : (t : Bool) → is_bits k v ≡ t → (if t then Some (k, v) else None) ≡ Some b → IsKnown k (Some b)
    go true is e = record { value = v; is = ap (λ b. Some b) (sym (same_Some (k, v) b e)); fits = is }
    go false is e = absurd (none-some b e)

pub bound_preceding : (ks : List BitsKind) (vs : List ℕ) (xs ys : List Outcome) → bound ks vs xs ≡ Some ys → IsPreceding xs ys
bound_preceding [] [] xs ys e = subst (IsPreceding xs) (same_Some xs ys e) (preceding_itself xs)
bound_preceding [] (v ∷ vs) xs ys e = absurd (none-some ys e)
bound_preceding (k ∷ ks) [] xs ys e = absurd (none-some ys e)
bound_preceding (k ∷ ks) (v ∷ vs) xs ys e =
    let g = given_some (bits_of k v) (λ b. bound ks vs (xs ++ (Some b ∷ []))) ys e in
    preceding_shorter xs ys (Some g.0) (bound_preceding ks vs (xs ++ (Some g.0 ∷ [])) ys g.2)

module _ (ks : List BitsKind) (t : ℕ) where
  abbrev k : BitsKind
  k = kind_at ks t

  module _ (fin : List Outcome) where
    abbrev V : ℕ → ℕ
    V = number_at fin

    pub values_stand : (us vs : List ℕ) (fs : Formal) (xs ys : List Outcome) → list_all (λ u. u == t) us ≡ true → bound (map (kind_at ks) us) vs xs ≡ Some ys → ((zs : List Outcome) → IsPreceding zs ys → IsPreceding zs fin)
        → AllStand k V fs xs → AllStand k V (formal_values us fs) ys
    values_stand [] [] fs xs ys has e preceding stand = subst (AllStand k V fs) (same_Some xs ys e) stand
    values_stand [] (v ∷ vs) fs xs ys has e preceding stand = absurd (none-some ys e)
    values_stand (u ∷ us) [] fs xs ys has e preceding stand = absurd (none-some ys e)
    values_stand (u ∷ us) (v ∷ vs) fs xs ys has e preceding stand =
        let h = and_parts (u == t) (list_all (λ u. u == t) us) has in
        let g = given_some (bits_of (kind_at ks u) v) (λ b. bound (map (kind_at ks) us) vs (xs ++ (Some b ∷ []))) ys e in
        let known : IsKnown k (Some g.0) = subst (λ u. IsKnown (kind_at ks u) (Some g.0)) (eqb-true u t h.0) (bits_known (kind_at ks u) v g.0 g.1) in
        let here = preceding (xs ++ (Some g.0 ∷ [])) (bound_preceding (map (kind_at ks) us) vs (xs ++ (Some g.0 ∷ [])) ys g.2) in
        values_stand us vs (fs ++ (Some (value_at (length fs)) ∷ [])) (xs ++ (Some g.0 ∷ [])) ys h.1 g.2 preceding
        (stand_more k V fs xs (Some (value_at (length fs))) (Some g.0) stand (next_stands k fin fs xs (Some g.0) stand here known))

    pub extras_stand : (ns : List ExtraConstant) (fs : Formal) (xs ys : List Outcome) → list_all (extra_has t) ns ≡ true → list_all (extra_fits ks) ns ≡ true
        → run (map (extra_step ks) ns) xs ≡ Some ys → AllStand k V fs xs → AllStand k V (formal_extras ns fs) ys
    extras_stand [] fs xs ys has fits_in e stand = subst (AllStand k V fs) (same_Some xs ys e) stand
    extras_stand (n ∷ ns) fs xs ys has fits_in e stand =
        let h = and_parts (extra_has t n) (list_all (extra_has t) ns) has in
        let f = and_parts (extra_fits ks n) (list_all (extra_fits ks) ns) fits_in in
        let g = given_some (step_of (extra_step ks n) xs) (λ v. run (map (extra_step ks) ns) (xs ++ (v ∷ []))) ys e in
        extras_stand ns (fs ++ (formal_extra n fs ∷ [])) (xs ++ (g.0 ∷ [])) ys h.1 f.1 g.2
        (stand_more k V fs xs (formal_extra n fs) g.0 stand (extra_is_valid V ks t n fs xs g.0 stand h.0 f.0 g.1))

    pub numbers_are_valid : (ns : List ConstantExpression) (fs : Formal) (xs : List Outcome) → list_all (number_has t) ns ≡ true → list_all (number_fits ks) ns ≡ true
        → run (map (number_step ks) ns) xs ≡ Some fin → AllStand k V fs xs → AllStand k V (formal_numbers ns fs) fin
    numbers_are_valid [] fs xs has fits_in e stand = subst (AllStand k V fs) (same_Some xs fin e) stand
    numbers_are_valid (n ∷ ns) fs xs has fits_in e stand =
        let h = and_parts (number_has t n) (list_all (number_has t) ns) has in
        let f = and_parts (number_fits ks n) (list_all (number_fits ks) ns) fits_in in
        let g = given_some (step_of (number_step ks n) xs) (λ v. run (map (number_step ks) ns) (xs ++ (v ∷ []))) fin e in
        let preceding = preceding_of_steps (map (number_step ks) ns) (xs ++ (g.0 ∷ [])) fin g.2 in
        numbers_are_valid ns (fs ++ (formal_number n fs ∷ [])) (xs ++ (g.0 ∷ [])) h.1 f.1 g.2
        (stand_more k V fs xs (formal_number n fs) g.0 stand (number_is_valid ks t fin n fs xs g.0 stand preceding h.0 f.0 g.1))

  -- ---- both sides

  module _ (V : ℕ → ℕ) where
    pub olds_are_valid : (os : List PatternOp) (fs gs : Formal) (xs ys : List Outcome) → formal_olds os fs ≡ Some gs → run (map (pattern_op_step ks) os) xs ≡ Some ys → AllStand k V fs xs → AllStand k V gs ys
    olds_are_valid [] fs gs xs ys f e stand = subst (AllStand k V gs) (same_Some xs ys e) (subst (λ fs. AllStand k V fs xs) (same_Some fs gs f) stand)
    olds_are_valid (o ∷ os) fs gs xs ys f e stand =
        let q = given_some (formal_form o.form fs) (λ q. formal_olds os (fs ++ (Some q ∷ []))) gs f in
        let g = given_some (step_of (pattern_op_step ks o) xs) (λ v. run (map (pattern_op_step ks) os) (xs ++ (v ∷ []))) ys e in
        let here = gave k V fs xs stand q.0 (step_of (pattern_op_step ks o) xs) g.0 g.1 (form_gives k V fs xs stand (kind_at ks o.ty) o.form q.0 q.1) in
        olds_are_valid os (fs ++ (Some q.0 ∷ [])) gs (xs ++ (g.0 ∷ [])) ys q.2 g.2 (stand_more k V fs xs (Some q.0) g.0 stand here)

    pub record Ran (gs : Formal) (r : Option (List Outcome)) : Type 0 where
      pub env : List Outcome
      pub is : r ≡ Some env
      pub stand : AllStand k V gs env

    pub news_run : (ns : List NewValue) (fs gs : Formal) (xs : List Outcome) → formal_news ns fs ≡ Some gs → AllStand k V fs xs → Ran gs (run (map (new_step ks) ns) xs)
    news_run [] fs gs xs f stand = record { env = xs; is = refl; stand = subst (λ fs. AllStand k V fs xs) (same_Some fs gs f) stand }
    news_run (n ∷ ns) fs gs xs f stand =
        let q = given_some (formal_new n fs) (λ q. formal_news ns (fs ++ (Some q ∷ []))) gs f in
        let here : Gives k V q.0 (step_of (new_step ks n) xs) = new_gives k V fs xs stand ks n q.0 q.1 in
        let rest = news_run ns (fs ++ (Some q.0 ∷ [])) gs (xs ++ (here.outcome ∷ [])) q.2 (stand_more k V fs xs (Some q.0) here.outcome stand here.stands) in
        record {
          env = rest.env;
          is = ap (λ r. given r (λ v. run (map (new_step ks) ns) (xs ++ (v ∷ [])))) here.is ∙ rest.is;
          stand = rest.stand;
        }
