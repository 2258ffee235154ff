-- If the new operations of a pattern take their operands by its form, they do so at all widths at which it may be
-- applied.
use Rattle.std.proofs.Common.{◌≡◌, ℕ, zero, suc, ◌<◌, ◌≤◌, refl, ap, sym, ◌∙◌, subst, List, [], ◌∷◌, ◌++◌, map, true, true≢false, ◌&&◌, eqb-true, Some, get_or, inl, inr, arith}
use Rattle.std.specs.Prelude.{nat_le, nat_lt}
use Rattle.std.specs.List.{list_all, list_any}
use Rattle.std.proofs.lemmas.Bool.{and_from, and_parts, ltb-true, or_cases}
use Rattle.std.proofs.lemmas.Bool.Decides.{nat_tests}
use Rattle.std.proofs.lemmas.List.{map-append}
use Rattle.ir_types.specs.declared.bits.BitsKind.{BitsKind}
use Rattle.ir_types.specs.declared.bits.BitsKind.TheVariants as kind
use Rattle.ir_types.specs.Bits.{width_of}
use Rattle.ir_types.specs.Limits.{most_width}
use Rattle.ir_types.specs.Reasons.{is_width}
use Rattle.dialects_int.specs.declared.operations.Cast.{Cast}
use Rattle.dialects_int.specs.declared.operations.Cast.TheVariants as cast
use Rattle.dialects_int.specs.Folds.{same_kind}
use Rattle.dialects_int.proofs.KnownOperands.{same_itself}
use Rattle.user_patterns_check.specs.Families.{AreWidths}
use Rattle.user_patterns_check.proofs.Keeping.{same_kinds}
use Rattle.user_patterns_data.specs.declared.pattern.TypeConstraint.{TypeConstraint}
use Rattle.user_patterns_data.specs.declared.pattern.TypeConstraint.TheVariants as requested
use Rattle.user_patterns_data.specs.declared.pattern.Expression.{Expression}
use Rattle.user_patterns_data.specs.declared.pattern.Expression.TheVariants as form
use Rattle.user_patterns_data.specs.declared.pattern.ExtraConstant.{ExtraConstant}
use Rattle.user_patterns_data.specs.declared.pattern.ExtraConstant.TheVariants as extra
use Rattle.user_patterns_data.specs.declared.pattern.PatternType.{PatternType}
use Rattle.user_patterns_data.specs.declared.pattern.PatternType.TheVariants as sort
use Rattle.user_patterns_data.specs.declared.pattern.ConstantExpression.{ConstantExpression}
use Rattle.user_patterns_data.specs.declared.pattern.ConstantExpression.TheVariants as number
use Rattle.user_patterns_data.specs.declared.pattern.NewValue.{NewValue}
use Rattle.user_patterns_data.specs.declared.pattern.NewValue.TheVariants as new
use Rattle.user_patterns_data.specs.Fitting.{fits, extra_fits, is_requested, is_integer, kind_at, kinds_with, number_fits}
use Rattle.user_patterns_data.specs.Shapes.{PatternModel}
use Rattle.user_patterns_build.specs.CanBuild.{new_type}
use Rattle.user_patterns_build.specs.Unified.{is_same}
use Rattle.patterns_refinement.specs.Applied.{extra_kind, kinds_after, kinds_matched, number_kind, pattern_op_kind}
use Rattle.patterns_refinement.specs.Better.{narrows}
use Rattle.patterns_refinement.specs.ByForm.{KindedByForm, asks_narrower, casts, form_taken, extra_sort, is_less, is_wide, is_written_less, new_taken, news_taken, number_sort, pattern_op_sort, sort_at, sorts_after, sorts_matched, is_kinded_by_form}
use Rattle.patterns_refinement.specs.Passing.{form_takes, is_kinded_at, new_takes, news_take}

-- the kind of a type, given the kinds of type variables
abbrev pub kind_by : (ℕ → BitsKind) → PatternType → BitsKind
kind_by at (sort.Concrete k) = k
kind_by at (sort.Variable v) = at v

-- ---- types at kinds
module _ (at : ℕ → BitsKind) where
  at_widths : (ss : List PatternType) (i : ℕ) → kind_at (map (kind_by at) ss) i ≡ kind_by at (sort_at ss i)
  at_widths [] i = refl
  at_widths (s ∷ ss) zero = refl
  at_widths (s ∷ ss) (suc i) = at_widths ss i

  same_there : (a b : PatternType) → is_same a b ≡ true → same_kind (kind_by at a) (kind_by at b) ≡ true
  same_there (sort.Concrete j) (sort.Concrete k) e = e
  same_there (sort.Concrete j) (sort.Variable v) e = absurd (true≢false (sym e))
  same_there (sort.Variable u) (sort.Concrete k) e = absurd (true≢false (sym e))
  same_there (sort.Variable u) (sort.Variable v) e = ap (λ v. same_kind (at u) (at v)) (sym (eqb-true u v e)) ∙ same_itself (at u)

  same_at : (es : List PatternType) (i : ℕ) (s : PatternType) → is_same (sort_at es i) s ≡ true → same_kind (kind_at (map (kind_by at) es) i) (kind_by at s) ≡ true
  same_at es i s e = ap (λ k. same_kind k (kind_by at s)) (at_widths es i) ∙ same_there (sort_at es i) s e

  after_map : {X : Type 0} (f : List BitsKind → X → BitsKind) (h : List PatternType → X → PatternType) → ((es : List PatternType) (x : X) → f (map (kind_by at) es) x ≡ kind_by at (h es x)) → (xs : List X) (es : List PatternType)
      → kinds_after f xs (map (kind_by at) es) ≡ map (kind_by at) (sorts_after h xs es)
  after_map f h same [] es = refl
  after_map f h same (x ∷ xs) es =
      ap (λ k. kinds_after f xs (map (kind_by at) es ++ (k ∷ []))) (same es x) ∙ ap (kinds_after f xs) (sym (map-append (kind_by at) es (h es x ∷ []))) ∙ after_map f h same xs (es ++ (h es x ∷ []))

  module _ (ss : List PatternType) where
    extra_map : (es : List PatternType) (f : ExtraConstant) → extra_kind (map (kind_by at) ss) (map (kind_by at) es) f ≡ kind_by at (extra_sort ss es f)
    extra_map es (extra.Literal l) = at_widths ss l.ty
    extra_map es (extra.SameAs i) = at_widths es i

    number_map : (es : List PatternType) (n : ConstantExpression) → number_kind (map (kind_by at) ss) (map (kind_by at) es) n ≡ kind_by at (number_sort ss es n)
    number_map es (number.Literal l) = at_widths ss l.ty
    number_map es (number.Width t) = at_widths ss t
    number_map es (number.Binary o i j) = at_widths es i
    number_map es (number.Compare q i j) = refl
    number_map es (number.Log2 i) = at_widths es i
    number_map es (number.Require i) = at_widths es i

    values_map : (vs : List ℕ) → map (kind_at (map (kind_by at) ss)) vs ≡ map (kind_by at) (map (sort_at ss) vs)
    values_map [] = refl
    values_map (v ∷ vs) = λ i. at_widths ss v i ∷ values_map vs i

  matched_map : (p : PatternModel) → kinds_matched (map (kind_by at) p.value_types) p ≡ map (kind_by at) (sorts_matched p)
  matched_map p =
      let ks = map (kind_by at) p.value_types in
      let first = map (sort_at p.value_types) p.values in
      let second = sorts_after (extra_sort p.value_types) p.extra first in
      let third = sorts_after (number_sort p.value_types) p.given second in
      ap (λ es. kinds_after (pattern_op_kind ks) p.old (kinds_after (number_kind ks) p.given (kinds_after (extra_kind ks) p.extra es))) (values_map p.value_types p.values)
      ∙ ap (λ es. kinds_after (pattern_op_kind ks) p.old (kinds_after (number_kind ks) p.given es)) (after_map (extra_kind ks) (extra_sort p.value_types) (extra_map p.value_types) p.extra first)
      ∙ ap (kinds_after (pattern_op_kind ks) p.old) (after_map (number_kind ks) (number_sort p.value_types) (number_map p.value_types) p.given second)
      ∙ after_map (pattern_op_kind ks) (pattern_op_sort p.value_types) (λ es o. at_widths p.value_types o.ty) p.old third

-- ---- widths in range
width_within : (n most : ℕ) (ws : List ℕ) (v : ℕ) → AreWidths n most ws → v < n → (1 ≤ get_or ws v 0) × (get_or ws v 0 ≤ most)
width_within zero most ws v l i = absurd (none v i)
  where
    none : (v : ℕ) → v < 0 → ⊥
    none v i = omega (arith, i)
width_within (suc n) most [] v l i = absurd l
width_within (suc n) most (w ∷ ws) zero l i = (l.0, l.1)
width_within (suc n) most (w ∷ ws) (suc v) l i = width_within n most ws v l.2 (omega (arith, i))

widths_are : (w most : ℕ) → 1 ≤ w → w ≤ most → most ≤ most_width → is_width w ≡ true
widths_are w most a b c = and_from (nat_lt 0 w) (nat_le w most_width) (one 0 w a) (two w most_width (omega (arith, b, c)))
  where
    one : (a b : ℕ) → suc a ≤ b → nat_lt a b ≡ true
    one a b h = grind (arith, nat_tests)

    two : (a b : ℕ) → a ≤ b → nat_le a b ≡ true
    two a b h = grind (arith, nat_tests)

module _ (p : PatternModel) (at : ℕ → BitsKind) (wide_at : (v : ℕ) → v < p.types → is_width (width_of (at v)) ≡ true) (fits_in : fits (map (kind_by at) p.value_types) p ≡ true) where
  wide : (s : PatternType) → is_wide p s ≡ true → is_width (width_of (kind_by at s)) ≡ true
  wide (sort.Concrete k) e = e
  wide (sort.Variable v) e = wide_at v (ltb-true v p.types e)

  -- a narrower constraint holds of the widths
  requested_less : (a b : PatternType) (xs : List TypeConstraint) → list_all (is_requested (map (kind_by at) p.value_types)) xs ≡ true → list_any (asks_narrower p a b) xs ≡ true → nat_lt (width_of (kind_by at a)) (width_of (kind_by at b)) ≡ true
  requested_less a b [] h e = absurd (true≢false (sym e))
  requested_less a b (x ∷ xs) h e =
      let q = and_parts (is_requested (map (kind_by at) p.value_types) x) (list_all (is_requested (map (kind_by at) p.value_types)) xs) h in
      elim (or_cases (asks_narrower p a b x) (list_any (asks_narrower p a b) xs) e) [ inl i ↦ one x q.0 i | inr i ↦ requested_less a b xs q.1 i ]
    where
      one : (x : TypeConstraint) → is_requested (map (kind_by at) p.value_types) x ≡ true → asks_narrower p a b x ≡ true → nat_lt (width_of (kind_by at a)) (width_of (kind_by at b)) ≡ true
      one (requested.Integer t) h e = absurd (true≢false (sym e))
      one (requested.Narrower s t) h e =
          let r = and_parts (is_integer (kind_at (map (kind_by at) p.value_types) s)) _ h in
          let n = and_parts (is_integer (kind_at (map (kind_by at) p.value_types) t)) (nat_lt (width_of (kind_at (map (kind_by at) p.value_types) s)) (width_of (kind_at (map (kind_by at) p.value_types) t))) r.1 in
          let i = and_parts (is_same (sort_at p.value_types s) a) (is_same (sort_at p.value_types t) b) e in
          let u = same_kinds (kind_at (map (kind_by at) p.value_types) s) (kind_by at a) (same_at at p.value_types s a i.0) in
          let v = same_kinds (kind_at (map (kind_by at) p.value_types) t) (kind_by at b) (same_at at p.value_types t b i.1) in
          sym (λ z. nat_lt (width_of (u z)) (width_of (v z))) ∙ n.1

  less : (a b : PatternType) → is_less p a b ≡ true → nat_lt (width_of (kind_by at a)) (width_of (kind_by at b)) ≡ true
  less a b e =
      let all = (and_parts (list_all (is_requested (map (kind_by at) p.value_types)) p.type_constraints) (list_all (extra_fits (map (kind_by at) p.value_types)) p.extra && list_all (number_fits (map (kind_by at) p.value_types)) p.given) fits_in).0 in
      elim (or_cases (is_written_less p a b) (list_any (asks_narrower p a b) p.type_constraints) e) [ inl i ↦ written a b i | inr i ↦ requested_less a b p.type_constraints all i ]
    where
      written : (a b : PatternType) → is_written_less p a b ≡ true → nat_lt (width_of (kind_by at a)) (width_of (kind_by at b)) ≡ true
      written (sort.Concrete j) (sort.Concrete k) e = e
      written (sort.Concrete j) (sort.Variable v) e = absurd (true≢false (sym e))
      written (sort.Variable v) b e = absurd (true≢false (sym e))

  cast_there : (c : Cast) (es : List PatternType) (i : ℕ) (s : PatternType) → casts p c (sort_at es i) s ≡ true → narrows c (Some (kind_at (map (kind_by at) es) i)) (kind_by at s) ≡ true
  cast_there cast.Truncate es i s e = ap (λ k. nat_lt (width_of (kind_by at s)) (width_of k)) (at_widths at es i) ∙ less s (sort_at es i) e
  cast_there cast.ExtendSigned es i s e = refl
  cast_there cast.ExtendUnsigned es i s e = refl

  form_there : (es : List PatternType) (s : PatternType) (f : Expression) → form_taken p es s f ≡ true → form_takes (map (kind_by at) es) (kind_by at s) f ≡ true
  form_there es s (form.Binary o i j) e =
      let q = and_parts (is_same (sort_at es i) s) (is_same (sort_at es j) s) e in
      (λ z. same_at at es i s q.0 z && same_at at es j s q.1 z)
  form_there es s (form.Compare r i j) e =
      let q = and_parts (is_same (sort_at es j) (sort_at es i)) (is_same (sort.Concrete (kind.Int 1)) s) e in
      let one = ap (same_kind (kind_at (map (kind_by at) es) j)) (at_widths at es i) ∙ same_at at es j (sort_at es i) q.0 in
      (λ z. one z && same_there at (sort.Concrete (kind.Int 1)) s q.1 z)
  form_there es s (form.Select c i j) e =
      let q = and_parts (is_same (sort_at es c) (sort.Concrete (kind.Int 1))) (is_same (sort_at es i) s && is_same (sort_at es j) s) e in
      let r = and_parts (is_same (sort_at es i) s) (is_same (sort_at es j) s) q.1 in
      (λ z. same_at at es c (sort.Concrete (kind.Int 1)) q.0 z && (same_at at es i s r.0 z && same_at at es j s r.1 z))
  form_there es s (form.IntegerCast c i) e = cast_there c es i s e
  form_there es s (form.IndexCast c i) e = cast_there c es i s e

  new_there : (es : List PatternType) (w : NewValue) → new_taken p es w ≡ true → new_takes (map (kind_by at) p.value_types) (map (kind_by at) es) w ≡ true
  new_there es (new.Operation o) e =
      let q = and_parts (is_wide p (sort_at p.value_types o.ty)) (form_taken p es (sort_at p.value_types o.ty) o.form) e in
      ap (λ k. is_width (width_of k) && form_takes (map (kind_by at) es) k o.form) (at_widths at p.value_types o.ty)
      ∙ and_from (is_width (width_of (kind_by at (sort_at p.value_types o.ty)))) (form_takes (map (kind_by at) es) (kind_by at (sort_at p.value_types o.ty)) o.form) (wide (sort_at p.value_types o.ty) q.0) (form_there es (sort_at p.value_types o.ty) o.form q.1)
  new_there es (new.Constant i t) e = ap (same_kind (kind_at (map (kind_by at) es) i)) (at_widths at p.value_types t) ∙ same_at at es i (sort_at p.value_types t) e

  news_there : (xs : List NewValue) (es : List PatternType) → news_taken p es xs ≡ true → news_take (map (kind_by at) p.value_types) (map (kind_by at) es) xs ≡ true
  news_there [] es e = refl
  news_there (w ∷ xs) es e =
      let q = and_parts (new_taken p es w) (news_taken p (es ++ (sort_at p.value_types (new_type w) ∷ [])) xs) e in
      let more : news_take (map (kind_by at) p.value_types) (map (kind_by at) es ++ (kind_at (map (kind_by at) p.value_types) (new_type w) ∷ [])) xs ≡ true =
      ap (λ k. news_take (map (kind_by at) p.value_types) (map (kind_by at) es ++ (k ∷ [])) xs) (at_widths at p.value_types (new_type w))
      ∙ ap (λ es. news_take (map (kind_by at) p.value_types) es xs) (sym (map-append (kind_by at) es (sort_at p.value_types (new_type w) ∷ []))) ∙ news_there xs (es ++ (sort_at p.value_types (new_type w) ∷ [])) q.1 in
      and_from (new_takes (map (kind_by at) p.value_types) (map (kind_by at) es) w) (news_take (map (kind_by at) p.value_types) (map (kind_by at) es ++ (kind_at (map (kind_by at) p.value_types) (new_type w) ∷ [])) xs) (new_there es w q.0) more

-- at kinds that satisfy the pattern's constraints, and have valid widths
pub kinded_by_kinds : (p : PatternModel) → is_kinded_by_form p ≡ true → (at : ℕ → BitsKind) → ((v : ℕ) → v < p.types → is_width (width_of (at v)) ≡ true)
    → fits (map (kind_by at) p.value_types) p ≡ true → is_kinded_at (map (kind_by at) p.value_types) p ≡ true
kinded_by_kinds p kinded at wide_at fits_in =
    ap (λ es. news_take (map (kind_by at) p.value_types) es p.new) (matched_map at p) ∙ news_there p at wide_at fits_in p.new (sorts_matched p) kinded

-- at widths
kinds_same : (ws : List ℕ) (ss : List PatternType) → map (kind_by (λ v. kind.Int (get_or ws v 0))) ss ≡ kinds_with ws ss
kinds_same ws [] = refl
kinds_same ws (sort.Concrete k ∷ ss) = ap (λ ks. k ∷ ks) (kinds_same ws ss)
kinds_same ws (sort.Variable v ∷ ss) = ap (λ ks. kind.Int (get_or ws v 0) ∷ ks) (kinds_same ws ss)

pub kinded_by_form : KindedByForm
kinded_by_form p kinded most within ws are fits_in =
    subst (λ ks. is_kinded_at ks p ≡ true) (kinds_same ws p.value_types)
    (kinded_by_kinds p kinded (λ v. kind.Int (get_or ws v 0)) (λ v l. let w = width_within p.types most ws v are l in widths_are (get_or ws v 0) most w.0 w.1 within)
    (subst (λ ks. fits ks p ≡ true) (sym (kinds_same ws p.value_types)) fits_in))
