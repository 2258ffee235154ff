-- Patterns that a check found to hold, and whose check covers all widths, refine what modules compute.
use Rattle.std.proofs.Common.{◌≡◌, ◌≤◌, ℕ, zero, suc, refl, sym, subst, List, [], ◌∷◌, map, true, true≢false, Option, Some, None, slice_get, inl, inr, arith}
use Rattle.std.specs.List.{list_all}
use Rattle.std.proofs.lemmas.Bool.{and_from, and_parts, or_cases}
use Rattle.std.proofs.lemmas.List.{length-map}
use Rattle.std.proofs.lemmas.Option.{none-some}
use Rattle.ir_types.specs.declared.bits.BitsKind.{BitsKind}
use Rattle.ir_types.specs.declared.bits.BitsKind.TheVariants as kind
use Rattle.patterns_laws.proofs.KnownFolds.{given_some}
use Rattle.user_patterns_data.specs.declared.pattern.TypeConstraint.{TypeConstraint}
use Rattle.user_patterns_data.specs.declared.pattern.Expression.{Expression}
use Rattle.user_patterns_data.specs.declared.pattern.Expression.TheVariants as form
use Rattle.user_patterns_data.specs.declared.pattern.PatternType.{PatternType}
use Rattle.user_patterns_data.specs.declared.pattern.PatternOp.{PatternOp}
use Rattle.user_patterns_check.specs.declared.verdict.Verdict.TheVariants as verdict
use Rattle.user_patterns_check.specs.Families.{IsVerdict}
use Rattle.user_patterns_data.specs.Fitting.{content_at, kind_at}
use Rattle.user_patterns_data.specs.Shapes.{PatternModel}
use Rattle.user_patterns_data.specs.WellFormed.{is_well_formed, new_ends, old_begins}
use Rattle.user_patterns_widths.specs.Polynomials.{Polynomial}
use Rattle.user_patterns_widths.specs.AllWidths.{Formal, first_type, form_is_bitwise, formal, formal_extras, formal_news, formal_numbers, formal_olds, formal_values, holds_at_all_widths, has_one_type, has_type, is_bit_by_bit, is_none_requested, is_one_polynomial, is_some_type, is_variable, is_variable_type, new_is_bitwise, number_is_bitwise, pattern_op_is_bitwise, extra_is_bitwise, sides_are_one}
use Rattle.user_patterns_widths.specs.Lasting.{HoldsAtAllWidths, RefinesAtAllWidths, PolynomialsKeep}
use Rattle.user_patterns_build.specs.CanBuild.{can_build, has_name}
use Rattle.user_patterns_apply.specs.Own.{UserPatternsAreAccepted}
use Rattle.patterns_refinement.specs.Applied.{IsProper, extra_kind, is_typed, kinds_after, kinds_given, kinds_matched}
use Rattle.patterns_refinement.specs.Strict.{RegisteredKeep, HoldingKeep, KeepsComputingUserPattern, KeepsReadyUserPattern, StrictKeep, is_requested_of, is_strict, is_strict_at, is_strict_form, new_is_total, pattern_op_is_strict}
use Rattle.patterns_refinement.proofs.Going.{wellformed_parts}
use Rattle.patterns_refinement.proofs.StrictForms.{Uniform, has_parts, keeps_by_type, keeps_of_type, unasked}
use Rattle.patterns_refinement.proofs.StrictKinded.{uniform_keeps}
use Rattle.patterns_refinement.proofs.StrictTyped.{OneKind, extras_all, extras_one, news_all, news_one, numbers_all, numbers_one, olds_all, olds_one, typed_too, values_all, values_one}

-- ---- the single type
record Typed (p : PatternModel) : Type 0 where
  pub ty : ℕ
  pub is : is_variable_type p ty ≡ true
  pub has : has_type ty p ≡ true

one_type : (p : PatternModel) → has_one_type p ≡ true → Typed p
one_type p e = go (first_type p.old) e
  where
    go : (o : Option ℕ) → is_some_type p o ≡ true → Typed p
    go None e = absurd (true≢false (sym e))
    go (Some t) e = record { ty = t; is = e; has = (and_parts (is_variable p (slice_get p.value_types t)) (has_type t p) e).1 }

-- ---- one polynomial
none_yet : (k : BitsKind) → OneKind {X = Polynomial} k [] []
none_yet k = record { long = refl; are = λ i q e. absurd (none-some (Some q) e) }

module _ (p : PatternModel) (polynomial : is_one_polynomial p ≡ true) (keeps : RefinesAtAllWidths (unasked p)) where
  formal_some : (o : Option Formal) → sides_are_one p o ≡ true → (env : Formal) × (o ≡ Some env)
  formal_some None e = absurd (true≢false (sym e))
  formal_some (Some env) e = (env, refl)

  pub uniform_polynomial : Uniform p
  uniform_polynomial =
      let parts = and_parts (has_one_type p) (sides_are_one p (formal p)) polynomial in
      let t = one_type p parts.0 in
      let has = has_parts p t.ty t.has in
      let numbers = formal_numbers p.given (formal_extras p.extra (formal_values p.values [])) in
      let env = formal_some (formal p) parts.1 in
      let g = given_some (formal_olds p.old numbers) (formal_news p.new) env.0 env.1 in
      let matched : (ks : List BitsKind) → OneKind (kind_at ks t.ty) g.0 (kinds_matched ks p) × (list_all pattern_op_is_strict p.old ≡ true) =
      (λ ks. olds_one ks t.ty p.old (formal_numbers p.given (formal_extras p.extra (formal_values p.values []))) g.0 (kinds_given ks p) has.olds g.1
      (numbers_one ks t.ty p.given (formal_extras p.extra (formal_values p.values [])) (kinds_after (extra_kind ks) p.extra (map (kind_at ks) p.values)) has.given
      (extras_one ks t.ty p.extra (formal_values p.values []) (map (kind_at ks) p.values) has.extra (values_one ks t.ty p.values [] [] has.values (none_yet (kind_at ks t.ty)))))) in
      let made : (ks : List BitsKind) → (is_typed ks p ≡ true) × (list_all new_is_total p.new ≡ true) = (λ ks. news_one ks t.ty p.new g.0 env.0 (kinds_matched ks p) has.news g.2 (matched ks).0) in
      record {
        ty = t.ty;
        values = has.values;
        olds = has.olds;
        news = has.news;
        strict = (matched []).1;
        total = (made []).1;
        typed = λ ks. (made ks).0;
        keeps = keeps_by_type p t.ty t.has keeps;
      }

-- ---- bit by bit
none_requested : (p : PatternModel) → is_none_requested p.type_constraints ≡ true → unasked p ≡ p
none_requested p e = go p.type_constraints refl e
  where
    go : (xs : List TypeConstraint) → p.type_constraints ≡ xs → is_none_requested xs ≡ true → unasked p ≡ p
    go [] i e = λ z. record p { type_constraints = sym i z }
    go (x ∷ xs) i e = absurd (true≢false (sym e))

uniform_bits : (p : PatternModel) → is_bit_by_bit p ≡ true → IsProper p → RefinesAtAllWidths p → Uniform p
uniform_bits p bits proper keeps =
    let a = and_parts (has_one_type p) _ bits in
    let b = and_parts (is_none_requested p.type_constraints) _ a.1 in
    let c = and_parts (list_all extra_is_bitwise p.extra) _ b.1 in
    let d = and_parts (list_all number_is_bitwise p.given) _ c.1 in
    let e = and_parts (list_all pattern_op_is_bitwise p.old) (list_all new_is_bitwise p.new) d.1 in
    let t = one_type p a.0 in
    let has = has_parts p t.ty t.has in
    let f = wellformed_parts p proper.wellformed in
    let made : (ks : List BitsKind) → (is_typed ks p ≡ true) × (list_all pattern_op_is_strict p.old ≡ true) × (list_all new_is_total p.new ≡ true) =
    (λ ks.
    let l = length-map p.values (kind_at ks) in
    let x = extras_all p ks t.ty f.constants p.extra (map (kind_at ks) p.values) has.extra f.extra (omega (arith, l)) (values_all ks t.ty p.values has.values) in
    let m = x.1 in
    let y = numbers_all p ks t.ty f.constants (old_begins p) p.given (kinds_after (extra_kind ks) p.extra (map (kind_at ks) p.values)) has.given d.0 f.numbers (omega (arith, l, m)) (omega (arith, l, m)) x.0 in
    let n = y.1 in
    let z = olds_all p ks t.ty f.constants p.old (kinds_given ks p) has.olds e.0 y.0 in
    let k = z.1 in
    let w = news_all p ks t.ty f.constants (new_ends p) p.new (kinds_matched ks p) has.news e.1 f.news (omega (arith, n, k)) (omega (arith, n, k)) z.0 in
    (w.0, z.2, w.1)) in
    record {
      ty = t.ty;
      values = has.values;
      olds = has.olds;
      news = has.news;
      strict = (made []).1;
      total = (made []).2;
      typed = λ ks. (made ks).0;
      keeps = keeps_by_type p t.ty t.has (subst RefinesAtAllWidths (sym (none_requested p b.0)) keeps);
    }

-- ---- strict patterns
index_there : (p : PatternModel) (ks : List PatternType) (t : ℕ) → is_variable p (slice_get ks t) ≡ true → kind_at (map (λ k. kind.Index) ks) t ≡ kind.Index
index_there p [] t e = absurd (true≢false (sym e))
index_there p (k ∷ ks) zero e = refl
index_there p (k ∷ ks) (suc t) e = index_there p ks t e

uniform_strict : (p : PatternModel) → is_strict p ≡ true → RefinesAtAllWidths p → Uniform p
uniform_strict p e keeps = go (first_type p.old) e
  where
    go : (o : Option ℕ) → is_strict_at p o ≡ true → Uniform p
    go None e = absurd (true≢false (sym e))
    go (Some t) e =
        let a = and_parts (is_variable_type p t) _ e in
        let b = and_parts (list_all (is_requested_of t) p.type_constraints) _ a.1 in
        let c = and_parts (list_all pattern_op_is_strict p.old) _ b.1 in
        let d = and_parts (list_all new_is_total p.new) (is_typed (map (λ k. kind.Index) p.value_types) p) c.1 in
        let v = and_parts (is_variable p (slice_get p.value_types t)) (has_type t p) a.0 in
        let has = has_parts p t v.1 in
        record {
          ty = t;
          values = has.values;
          olds = has.olds;
          news = has.news;
          strict = c.0;
          total = d.0;
          typed = λ ks. typed_too (map (λ k. kind.Index) p.value_types) ks t (index_there p p.value_types t v.0) p has.values has.extra has.given has.olds has.news d.0 d.1;
          keeps = keeps_of_type p t v.1 b.0 keeps;
        }

-- ---- the laws
pub strict_keep : UserPatternsAreAccepted → StrictKeep
strict_keep accepted p e proper keeps = uniform_keeps accepted p (uniform_strict p e keeps) proper

-- a pattern that a check found to hold, and whose sides are one polynomial or are computed bit by bit
pub holding_uniform : PolynomialsKeep → HoldsAtAllWidths → (p : PatternModel) → holds_at_all_widths p ≡ true → IsProper p → (most : ℕ) → 1 ≤ most → IsVerdict (content_at p) p.types most verdict.Holds → Uniform p
holding_uniform polynomials holds p e proper most low right =
    elim (or_cases (is_one_polynomial p) (is_bit_by_bit p) e) [
      | inl i ↦ uniform_polynomial p i (polynomials (unasked p) i)
      | inr i ↦ uniform_bits p i proper (holds p e most low right)
    ]

-- the same for a pattern that refines for all values at all widths
pub refining_uniform : PolynomialsKeep → (p : PatternModel) → holds_at_all_widths p ≡ true → IsProper p → RefinesAtAllWidths p → Uniform p
refining_uniform polynomials p e proper keeps =
    elim (or_cases (is_one_polynomial p) (is_bit_by_bit p) e) [
      | inl i ↦ uniform_polynomial p i (polynomials (unasked p) i)
      | inr i ↦ uniform_bits p i proper keeps
    ]

pub refining_keep : UserPatternsAreAccepted → PolynomialsKeep → (p : PatternModel) → holds_at_all_widths p ≡ true → IsProper p → RefinesAtAllWidths p → KeepsReadyUserPattern p × KeepsComputingUserPattern p
refining_keep accepted polynomials p e proper keeps = uniform_keeps accepted p (refining_uniform polynomials p e proper keeps) proper

pub holding_keep : UserPatternsAreAccepted → PolynomialsKeep → HoldsAtAllWidths → HoldingKeep
holding_keep accepted polynomials holds p e proper most low right = uniform_keeps accepted p (holding_uniform polynomials holds p e proper most low right) proper

-- ---- patterns of a registry: all matched operations have names
strict_named : (os : List PatternOp) → list_all pattern_op_is_strict os ≡ true → list_all (λ (o : PatternOp). has_name o.form) os ≡ true
strict_named [] e = refl
strict_named (o ∷ os) e =
    let q = and_parts (pattern_op_is_strict o) (list_all pattern_op_is_strict os) e in
    and_from (has_name o.form) (list_all (λ (o : PatternOp). has_name o.form) os) (one o.form q.0) (strict_named os q.1)
  where
    one : (f : Expression) → is_strict_form f ≡ true → has_name f ≡ true
    one (form.Binary o i j) e = refl
    one (form.Compare q i j) e = refl
    one (form.Select c i j) e = refl
    one (form.IntegerCast c i) e = refl
    one (form.IndexCast c i) e = absurd (true≢false (sym e))

bitwise_strict : (os : List PatternOp) → list_all pattern_op_is_bitwise os ≡ true → list_all pattern_op_is_strict os ≡ true
bitwise_strict [] e = refl
bitwise_strict (o ∷ os) e =
    let q = and_parts (pattern_op_is_bitwise o) (list_all pattern_op_is_bitwise os) e in
    and_from (pattern_op_is_strict o) (list_all pattern_op_is_strict os) (one o.form q.0) (bitwise_strict os q.1)
  where
    one : (f : Expression) → form_is_bitwise f ≡ true → is_strict_form f ≡ true
    one (form.Binary o i j) e = refl
    one (form.Compare q i j) e = absurd (true≢false (sym e))
    one (form.Select c i j) e = absurd (true≢false (sym e))
    one (form.IntegerCast c i) e = absurd (true≢false (sym e))
    one (form.IndexCast c i) e = absurd (true≢false (sym e))

pub registered_proper : PolynomialsKeep → (p : PatternModel) → is_well_formed p ≡ true → can_build p ≡ true → holds_at_all_widths p ≡ true → IsProper p
registered_proper polynomials p wellformed buildable e = record {
  wellformed = wellformed;
  buildable = buildable;
  named = strict_named p.old
      (elim (or_cases (is_one_polynomial p) (is_bit_by_bit p) e) [
        | inl i ↦ (uniform_polynomial p i (polynomials (unasked p) i)).strict
        | inr i ↦
            let a = and_parts (has_one_type p) _ i in
            let b = and_parts (is_none_requested p.type_constraints) _ a.1 in
            let c = and_parts (list_all extra_is_bitwise p.extra) _ b.1 in
            let d = and_parts (list_all number_is_bitwise p.given) _ c.1 in
            bitwise_strict p.old (and_parts (list_all pattern_op_is_bitwise p.old) (list_all new_is_bitwise p.new) d.1).0
      ]);
}

pub registered_keep : UserPatternsAreAccepted → PolynomialsKeep → HoldsAtAllWidths → RegisteredKeep
registered_keep accepted polynomials holds p wellformed buildable e most low right =
    holding_keep accepted polynomials holds p e (registered_proper polynomials p wellformed buildable e) most low right
