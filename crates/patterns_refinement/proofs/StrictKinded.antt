-- The new operations of a pattern of one type take operands of the kinds that they need, if that type has some width.
-- Such patterns pass poison on, and their new operations are always defined.
use Rattle.std.proofs.Common.{◌≡◌, ℕ, ◌+◌, ◌-◌, ◌<◌, ◌≤◌, refl, ap, sym, ◌∙◌, subst, List, [], ◌∷◌, ◌++◌, length, map, true, true≢false, ◌&&◌, not, None, inl, inr, eqb-true, arith}
use Rattle.std.specs.Prelude.{◌==◌}
use Rattle.std.specs.List.{list_all}
use Rattle.std.proofs.lemmas.Bool.{and_from, and_parts, cases_lt}
use Rattle.std.proofs.lemmas.Option.{none-some}
use Rattle.std.proofs.lemmas.List.{get_or_append_left, get_or_push, length-map, length_push}
use Rattle.ir_types.specs.declared.bits.BitsKind.{BitsKind}
use Rattle.ir_types.specs.declared.bits.BitsKind.TheVariants as kind
use Rattle.ir_types.specs.Bits.{width_of}
use Rattle.ir_types.specs.Reasons.{is_width}
use Rattle.ir_types.proofs.WordNumbers.{all_at}
use Rattle.ir_event.specs.Modules.{Module}
use Rattle.dialects_int.specs.declared.operations.Arithmetic.{Arithmetic}
use Rattle.dialects_int.specs.declared.operations.Arithmetic.TheVariants as op
use Rattle.dialects_int.specs.Folds.{same_kind}
use Rattle.patterns_base.specs.Rewrites.{becomes}
use Rattle.user_patterns_check.specs.Outcomes.{divides}
use Rattle.user_patterns_data.specs.declared.pattern.Expression.{Expression}
use Rattle.user_patterns_data.specs.declared.pattern.Expression.TheVariants as form
use Rattle.user_patterns_data.specs.declared.pattern.NewValue.{NewValue}
use Rattle.user_patterns_data.specs.declared.pattern.NewValue.TheVariants as new
use Rattle.user_patterns_data.specs.declared.pattern.PatternOp.{PatternOp}
use Rattle.user_patterns_data.specs.Fitting.{kind_at}
use Rattle.user_patterns_data.specs.Planning.{bound_type, old_place}
use Rattle.user_patterns_data.specs.Shapes.{PatternModel}
use Rattle.user_patterns_data.specs.WellFormed.{form_is_valid, is_new, is_type, new_ends, new_is_valid, news_are_valid}
use Rattle.user_patterns_build.specs.CanBuild.{new_type}
use Rattle.user_patterns_widths.specs.AllWidths.{new_has, pattern_op_has}
use Rattle.user_patterns_apply.specs.Own.{UserPatternsAreAccepted, user_pattern_rewrite}
use Rattle.patterns_refinement.specs.Applied.{IsProper, kinds_matched, new_fits, news_fit}
use Rattle.patterns_refinement.specs.Keeping.{IsReady}
use Rattle.patterns_refinement.specs.Passing.{FoundAt, KeepsAt, form_takes, is_always_defined, is_kinded_at, is_passing, kinds_there, new_is_defined, new_takes, news_take, passes_poison, pattern_op_passes}
use Rattle.patterns_refinement.specs.Strict.{KeepsComputingUserPattern, KeepsReadyUserPattern, is_strict_form, is_total, is_total_form, new_is_total, pattern_op_is_strict}
use Rattle.patterns_refinement.proofs.Going.{wellformed_parts}
use Rattle.patterns_refinement.proofs.Monotone.{kinds_agree}
use Rattle.patterns_refinement.proofs.News.{IsNewPlace, new_place_of}
use Rattle.patterns_refinement.proofs.StrictForms.{Uniform}
use Rattle.patterns_refinement.proofs.StrictTyped.{at_number, type_one, values_all}
use Rattle.patterns_refinement.proofs.PassingMade.{first_at, kinds_long}
use Rattle.patterns_refinement.proofs.PassingKept.{one_way, passing_keep, site_of}

-- ---- matched operations pass poison on, and new ones are always defined
strict_passes : (os : List PatternOp) → list_all pattern_op_is_strict os ≡ true → list_all pattern_op_passes os ≡ true
strict_passes [] e = refl
strict_passes (o ∷ os) e =
    let q = and_parts (pattern_op_is_strict o) (list_all pattern_op_is_strict os) e in
    and_from (pattern_op_passes o) (list_all pattern_op_passes os) (one o.form q.0) (strict_passes os q.1)
  where
    one : (f : Expression) → is_strict_form f ≡ true → passes_poison f ≡ true
    one (form.Binary w i j) e = refl
    one (form.Compare r i j) e = absurd (true≢false (sym e))
    one (form.Select c i j) e = absurd (true≢false (sym e))
    one (form.IntegerCast c i) e = absurd (true≢false (sym e))
    one (form.IndexCast c i) e = absurd (true≢false (sym e))

total_defined : (ws : List NewValue) → list_all new_is_total ws ≡ true → list_all new_is_defined ws ≡ true
total_defined [] e = refl
total_defined (w ∷ ws) e =
    let q = and_parts (new_is_total w) (list_all new_is_total ws) e in
    and_from (new_is_defined w) (list_all new_is_defined ws) (one w q.0) (total_defined ws q.1)
  where
    by_way : (o : Arithmetic) → is_total o ≡ true → not (divides o) ≡ true
    by_way op.DivideSigned e = e
    by_way op.DivideUnsigned e = e
    by_way op.RemainderSigned e = e
    by_way op.RemainderUnsigned e = e
    by_way o e = refl

    by_form : (f : Expression) → is_total_form f ≡ true → is_always_defined f ≡ true
    by_form (form.Binary o i j) e = by_way o e
    by_form (form.Compare r i j) e = refl
    by_form (form.Select c i j) e = refl
    by_form (form.IntegerCast c i) e = refl
    by_form (form.IndexCast c i) e = refl

    one : (w : NewValue) → new_is_total w ≡ true → new_is_defined w ≡ true
    one (new.Operation r) e = by_form r.form e
    one (new.Constant i t) e = refl

-- ---- new operations take operands of the single kind
module _ (p : PatternModel) (u : Uniform p) (proper : IsProper p) (ks : List BitsKind) (width : is_width (width_of (kind_at ks u.ty)) ≡ true) where
  abbrev IsPlace : ℕ → Type 0
  IsPlace j = IsNewPlace [] (λ i ty e. absurd (none-some ty e)) p [] (λ v. None) j

  abbrev AreIts : List BitsKind → Type 0
  AreIts es = (j : ℕ) → IsPlace j → j < length es → kind_at es j ≡ kind_at ks u.ty

  push_its : (es : List BitsKind) (k : BitsKind) → AreIts es → k ≡ kind_at ks u.ty → AreIts (es ++ (k ∷ []))
  push_its es k h e j o l = elim (cases_lt j (length es)) [
    | inl i ↦ get_or_append_left es (k ∷ []) (kind.Int 0) j i ∙ h j o i
    | inr i ↦ let n = length_push es k in let at : length es ≡ j = omega (arith, l, i, n) in get_or_push es k (kind.Int 0) j at ∙ e
  ]

  one_kinded : (es : List BitsKind) (w : NewValue) → AreIts es → length p.values ≤ length es → new_has u.ty w ≡ true → new_is_total w ≡ true → new_is_valid p (length es) w ≡ true → new_fits ks es w ≡ true → new_takes ks es w ≡ true
  one_kinded es (new.Operation r) h low has t st f =
      let k = at_number ks u.ty r.ty has in
      and_from (is_width (width_of (kind_at ks r.ty))) (form_takes es (kind_at ks r.ty) r.form) (ap (λ k. is_width (width_of k)) k ∙ width) (by_form r.form t (and_parts (is_type p r.ty) (form_is_valid p (is_new p (length es)) r.form) st).1 k)
    where
      at : (i : ℕ) → is_new p (length es) i ≡ true → kind_at es i ≡ kind_at ks u.ty
      at i e = let n = new_place_of [] (λ i ty e. absurd (none-some ty e)) p [] (λ v. None) (length es) i low e in h i n.0 n.1

      by_form : (f : Expression) → is_total_form f ≡ true → form_is_valid p (is_new p (length es)) f ≡ true → kind_at ks r.ty ≡ kind_at ks u.ty → form_takes es (kind_at ks r.ty) f ≡ true
      by_form (form.Binary o i j) t st k =
          let q = and_parts (is_new p (length es) i) (is_new p (length es) j) st in
          and_from (same_kind (kind_at es i) (kind_at ks r.ty)) (same_kind (kind_at es j) (kind_at ks r.ty)) (kinds_agree (kind_at es i) (kind_at ks r.ty) (kind_at ks u.ty) (at i q.0) k) (kinds_agree (kind_at es j) (kind_at ks r.ty) (kind_at ks u.ty) (at j q.1) k)
      by_form (form.Compare o i j) t st k = absurd (true≢false (sym t))
      by_form (form.Select c i j) t st k = absurd (true≢false (sym t))
      by_form (form.IntegerCast c i) t st k = absurd (true≢false (sym t))
      by_form (form.IndexCast c i) t st k = absurd (true≢false (sym t))
  one_kinded es (new.Constant i v) h low has t st f = f

  all_kinded : (ws : List NewValue) (es : List BitsKind) → AreIts es → length p.values ≤ length es → length es + length ws ≡ new_ends p → list_all (new_has u.ty) ws ≡ true → list_all new_is_total ws ≡ true → news_are_valid p (new_ends p) ws ≡ true → news_fit ks es ws ≡ true → news_take ks es ws ≡ true
  all_kinded [] es h low sum has t st f = refl
  all_kinded (w ∷ ws) es h low sum has t st f =
      let p1 = and_parts (new_has u.ty w) (list_all (new_has u.ty) ws) has in
      let p2 = and_parts (new_is_total w) (list_all new_is_total ws) t in
      let p3 = and_parts (new_is_valid p (new_ends p - length (w ∷ ws)) w) (news_are_valid p (new_ends p) ws) st in
      let p4 = and_parts (new_fits ks es w) (news_fit ks (es ++ (kind_at ks (new_type w) ∷ [])) ws) f in
      let at : new_ends p - length (w ∷ ws) ≡ length es = omega (arith, sum) in
      let l = length_push es (kind_at ks (new_type w)) in
      and_from (new_takes ks es w) (news_take ks (es ++ (kind_at ks (new_type w) ∷ [])) ws) (one_kinded es w h low p1.0 p2.0 (subst (λ z. new_is_valid p z w ≡ true) at p3.0) p4.0)
      (all_kinded ws (es ++ (kind_at ks (new_type w) ∷ [])) (push_its es (kind_at ks (new_type w)) h (type_one ks u.ty w p1.0)) (omega (arith, low, l)) (omega (arith, sum, l)) p1.1 p2.1 p3.1 p4.1)

  uniform_kinded : is_kinded_at ks p ≡ true
  uniform_kinded =
      let n = kinds_long ks p in
      let l = length-map p.values (kind_at ks) in
      all_kinded p.new (kinds_matched ks p)
      (λ j o m. elim o [ inl i ↦ first_at ks p j i ∙ values_all ks u.ty p.values u.values j (omega (arith, i, l)) | inr i ↦ absurd (omega (arith, i, m, n)) ])
      (omega (arith, n)) (omega (arith, n)) u.news u.total (wellformed_parts p proper.wellformed).news (u.typed ks)

-- ---- such patterns refine what is computed
mapped_has : (t : ℕ) (os : List PatternOp) → list_all (pattern_op_has t) os ≡ true → list_all (λ v. v == t) (map PatternOp.ty os) ≡ true
mapped_has t [] e = refl
mapped_has t (o ∷ os) e = let p = and_parts (pattern_op_has t o) (list_all (pattern_op_has t) os) e in (λ i. p.0 i && mapped_has t os p.1 i)

pub uniform_at : UserPatternsAreAccepted → (p : PatternModel) (u : Uniform p) (proper : IsProper p) (m n : Module) (x : ℕ) → IsReady m → user_pattern_rewrite p m x ≡ becomes n → KeepsAt p m x
uniform_at accepted p u proper m n x ready e at =
    let s = site_of accepted p proper m n x ready e in
    let here : FoundAt p m x = record { here = s.here.here; is_matched = s.here.is_matched; types = s.here.types; are_types = s.here.are_types } in
    let root = s.here.rooted in
    let ty : root.ty ≡ u.ty = eqb-true root.ty u.ty (all_at (λ v. v == u.ty) (map PatternOp.ty p.old) (p.root - old_place p) root.ty (mapped_has u.ty p.old u.olds) root.at) in
    let width : is_width (width_of (kind_at (kinds_there p m x at) u.ty)) ≡ true =
    subst (λ ks. is_width (width_of (kind_at ks u.ty)) ≡ true) (one_way p m x here at) (subst (λ z. is_width (width_of (kind_at (map bound_type s.here.types) z)) ≡ true) ty root.width) in
    (uniform_kinded p u proper (kinds_there p m x at) width, u.keeps (kinds_there p m x at) width)

pub uniform_keeps : UserPatternsAreAccepted → (p : PatternModel) → Uniform p → IsProper p → KeepsReadyUserPattern p × KeepsComputingUserPattern p
uniform_keeps accepted p u proper =
    let passing : is_passing p ≡ true = and_from (list_all pattern_op_passes p.old) (list_all new_is_defined p.new) (strict_passes p.old u.strict) (total_defined p.new u.total) in (
      (λ m n x ready e. (passing_keep accepted p m n x passing proper ready e (uniform_at accepted p u proper m n x ready e)).0),
      (λ m n x a done ready computing e. (passing_keep accepted p m n x passing proper ready e (uniform_at accepted p u proper m n x ready e)).1 a done computing),
    )
