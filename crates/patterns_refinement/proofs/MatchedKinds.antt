-- A match in a module in range, of a pattern whose form passes the tests: its kinds are kinds of all types that the
-- pattern uses, and the new values take their operands.
use Rattle.std.proofs.Common.{◌≡◌, ℕ, zero, suc, ◌+◌, ◌<◌, refl, ap, sym, ◌∙◌, subst, List, [], ◌∷◌, length, map, Bool, true, false, true≢false, ◌&&◌, ◌||◌, not, eqb, eqb-true, Option, Some, None, slice_get, inl, inr, arith}
use Rattle.std.specs.Prelude.{if◌then◌else◌, is_some, nat_lt}
use Rattle.std.specs.List.{list_all, list_any}
use Rattle.std.proofs.lemmas.Bool.{and_from, and_parts, ltb-true, or_cases}
use Rattle.std.proofs.lemmas.Option.{none-some, same_Some, slice_get-get_or, slice_get_within}
use Rattle.ir_types.specs.declared.bits.BitsKind.{BitsKind}
use Rattle.ir_types.specs.declared.bits.BitsKind.TheVariants as kind
use Rattle.ir_types.specs.Bits.{type_of, width_of}
use Rattle.ir_types.specs.Readings.{literal_bits}
use Rattle.ir_types.specs.Reasons.{is_width}
use Rattle.ir_types.specs.Terms.{TypeTerm}
use Rattle.ir_types.proofs.WordNumbers.{all_at}
use Rattle.ir_tree.specs.declared.value.Value.{Value}
use Rattle.ir_tree.specs.Meaning.{Operation}
use Rattle.ir_tree_laws.specs.Values.{type_of_value}
use Rattle.ir_tree_laws.proofs.Reasoned.{some_there}
use Rattle.ir_event.specs.Modules.{Module}
use Rattle.dialects_int.specs.Folds.{kind_of}
use Rattle.patterns_laws.proofs.KnownFolds.{given_some, kind_back}
use Rattle.patterns_base.specs.Looks.{is_verified}
use Rattle.user_patterns_check.specs.Outcomes.{Outcome, given}
use Rattle.user_patterns_claims.specs.Outcomes.{AreKindsOf, AreOutcomes, HoldsAtAllWidths, IsOutcome, are_kinds, keeps_outcomes}
use Rattle.user_patterns_data.specs.declared.pattern.ExtraConstant.{ExtraConstant}
use Rattle.user_patterns_data.specs.declared.pattern.ExtraConstant.TheVariants as extra
use Rattle.user_patterns_data.specs.declared.pattern.PatternType.{PatternType}
use Rattle.user_patterns_data.specs.declared.pattern.PatternType.TheVariants as sort
use Rattle.user_patterns_data.specs.declared.pattern.NewValue.{NewValue}
use Rattle.user_patterns_data.specs.declared.pattern.NewValue.TheVariants as new
use Rattle.user_patterns_data.specs.declared.pattern.PatternOp.{PatternOp}
use Rattle.user_patterns_data.specs.Fitting.{extra_fits, is_requested, kind_at, number_fits}
use Rattle.user_patterns_data.specs.Matching.{BoundValues, binding_at, types_at, written}
use Rattle.user_patterns_data.specs.Planning.{bound_type, new_place, old_place, planned}
use Rattle.user_patterns_data.specs.Shapes.{PatternModel}
use Rattle.user_patterns_build.specs.CanBuild.{new_type}
use Rattle.user_patterns_build.specs.Unified as united
use Rattle.patterns_refinement.specs.Applied.{IsProper}
use Rattle.patterns_refinement.specs.Keeping.{IsReady}
use Rattle.patterns_refinement.specs.Passing.{is_kinded_at}
use Rattle.patterns_refinement.specs.UsedTypes.{uses_only}
use Rattle.patterns_refinement.specs.ByForm.{is_kinded_by_form}
use Rattle.patterns_refinement.specs.ForOutcomes.{IsInRange, KeepsForOutcomes, has_width, has_widths, is_concrete, is_had, is_literal_type, numbered, numbered_type, numbered_types}
use Rattle.patterns_refinement.proofs.ByForm.{kind_by, kinded_by_kinds}
use Rattle.patterns_refinement.proofs.Forms.{kind_is}
use Rattle.patterns_refinement.proofs.Going.{typed_at, typed_parts}
use Rattle.patterns_refinement.proofs.MatchedTypes.{any_at, written_is}
use Rattle.patterns_refinement.proofs.NarrowTypes.{content_same, fits_same, kinded_same}
use Rattle.patterns_refinement.proofs.PassingMade.{AreBuilt, all_builds}
use Rattle.patterns_refinement.proofs.PassingMatched.{Here, types_from}
use Rattle.patterns_refinement.proofs.BoundValues.{IsTyped, Stands, standing_stands, stands_standing}

-- ---- types by number
module _ (at : ℕ → BitsKind) where
  abbrev numbered_kinds : ℕ → List PatternType → List BitsKind
  numbered_kinds i ss = map (kind_by at) (numbered_types i ss)

  numbered_at : (i : ℕ) (ss : List PatternType) (t : ℕ) → t < length ss → kind_at (numbered_kinds i ss) t ≡ kind_by at (numbered_type (i + t) (united.kind_in ss t))
  numbered_at i [] t l = absurd (omega (arith, l))
  numbered_at i (s ∷ ss) zero l = ap (λ z. kind_by at (numbered_type z s)) (same i)
    where
      same : (i : ℕ) → i ≡ i + 0
      same i = omega arith
  numbered_at i (s ∷ ss) (suc t) l = numbered_at (i + 1) ss t (omega (arith, l)) ∙ ap (λ z. kind_by at (numbered_type z (united.kind_in ss t))) (same i t)
    where
      same : (i t : ℕ) → i + 1 + t ≡ i + suc t
      same i t = omega arith

  kinds_of : (i : ℕ) (ss : List PatternType) → AreKindsOf ss (numbered_kinds i ss)
  kinds_of i [] = tt
  kinds_of i (sort.Concrete k ∷ ss) = (refl, kinds_of (i + 1) ss)
  kinds_of i (sort.Variable v ∷ ss) = kinds_of (i + 1) ss

  kinds_wide : ((v : ℕ) → is_width (width_of (at v)) ≡ true) → (i : ℕ) (ss : List PatternType) → list_all has_width ss ≡ true → are_kinds (numbered_kinds i ss) ≡ true
  kinds_wide wide i [] e = refl
  kinds_wide wide i (s ∷ ss) e =
      let q = and_parts (has_width s) (list_all has_width ss) e in
      and_from (is_width (width_of (kind_by at (numbered_type i s)))) (are_kinds (numbered_kinds (i + 1) ss)) (one s q.0) (kinds_wide wide (i + 1) ss q.1)
    where
      one : (s : PatternType) → has_width s ≡ true → is_width (width_of (kind_by at (numbered_type i s))) ≡ true
      one (sort.Concrete k) e = e
      one (sort.Variable v) e = wide i

-- the kind, or i1 if its width isn't valid
abbrev filled : BitsKind → BitsKind
filled k = if is_width (width_of k) then k else kind.Int 1

filled_wide : (k : BitsKind) → is_width (width_of (filled k)) ≡ true
filled_wide k = go (is_width (width_of k)) refl
  where
    go : (b : Bool) → is_width (width_of k) ≡ b → is_width (width_of (if b then k else kind.Int 1)) ≡ true
    go true e = e
    go false e = refl

filled_same : (k : BitsKind) → is_width (width_of k) ≡ true → filled k ≡ k
filled_same k e = ap (λ b. if b then k else kind.Int 1) e

-- ---- the types of new values are bound
module _ (ts : BoundValues TypeTerm) (env : List Outcome) (d : BoundValues Value) where
  built_types : (ws : List NewValue) (os : List Operation) → AreBuilt ts env d ws os → (t : ℕ) → list_any (eqb t) (map new_type ws) ≡ true → (term : TypeTerm) × Stands t term ts
  built_types ws os built t e = let r = any_at t (map new_type ws) e in one ws os built r.0 t r.1
    where
      its : (w : NewValue) (o : Operation) → (term : TypeTerm) → binding_at (new_type w) ts ≡ Some term → (t : ℕ) → Some (new_type w) ≡ Some t → (term : TypeTerm) × Stands t term ts
      its w o term s t i = (term, subst (λ z. Stands z term ts) (same_Some _ _ i) (standing_stands (new_type w) term ts s))

      one : (ws : List NewValue) (os : List Operation) → AreBuilt ts env d ws os → (i t : ℕ) → slice_get (map new_type ws) i ≡ Some t → (term : TypeTerm) × Stands t term ts
      one [] [] built i t s = absurd (none-some t s)
      one [] (o ∷ os) built i t s = absurd built
      one (w ∷ ws) [] built i t s = absurd built
      one (new.Operation r ∷ ws) (o ∷ os) built zero t s = its (new.Operation r) o built.0.1 built.0.3 t s
      one (new.Constant j v ∷ ws) (o ∷ os) built zero t s = its (new.Constant j v) o built.0.1 built.0.3 t s
      one (w ∷ ws) (o ∷ os) built (suc i) t s = one ws os built.1 i t s

-- ---- the widths of variables
-- a type that isn't wide is one of the list
unwide_within : (ss : List PatternType) (t : ℕ) → has_width (united.kind_in ss t) ≡ false → t < length ss
unwide_within [] t e = absurd (true≢false e)
unwide_within (s ∷ ss) zero e = omega arith
unwide_within (s ∷ ss) (suc t) e = let l = unwide_within ss t e in omega (arith, l)

not_false : (b : Bool) → not b ≡ true → b ≡ false
not_false true e = absurd (true≢false (sym e))
not_false false e = refl

any_where : (f : ℕ → Bool) (xs : List ℕ) → list_any f xs ≡ true → (i : ℕ) × (t : ℕ) × (slice_get xs i ≡ Some t) × (f t ≡ true)
any_where f [] e = absurd (true≢false (sym e))
any_where f (x ∷ xs) e = elim (or_cases (f x) (list_any f xs) e) [
  | inl h ↦ (0, x, refl, h)
  | inr h ↦ let r = any_where f xs h in (suc r.0, r.1, r.2, r.3)
]

-- in a module in range, a pattern with a variable of a type that isn't valid matches nothing
module _ (p : PatternModel) (m : Module) (x : ℕ) (proper : IsProper p) (ready : IsReady m) (range : IsInRange m) (os : List Operation) (value : Value) (plan : planned m.tree (is_verified m.tree) m.next p x ≡ Some (os, value))
    (q : Here m p x proper ready os value plan) where
  variable_wide : (i t : ℕ) → slice_get p.values i ≡ Some t → is_width (width_of (kind_at (map bound_type q.types) t)) ≡ true
  variable_wide i t e =
      let are = typed_parts m.tree (is_verified m.tree) m.next p q.here q.types q.are_types in
      let a = typed_at m.tree (is_verified m.tree) 0 p.values q.here q.types are.variables i (slice_get_within p.values i t e) in
      let w = a.2 in
      let k = some_there (kind_of w.term) (q.value_types a.0 w.term (stands_standing a.0 w.term q.types w.type_stands)) in
      let wide : is_width (width_of k.0) ≡ true = range w.value k.0 (ap (λ o. given o kind_of) w.of_value ∙ k.1) in
      let kind : kind_at (map bound_type q.types) a.0 ≡ k.0 = kind_is q.types a.0 w.term k.0 w.type_stands k.1 in
      subst (λ t. is_width (width_of (kind_at (map bound_type q.types) t)) ≡ true) (same_Some a.0 t (sym a.1 ∙ e)) (subst (λ k. is_width (width_of k) ≡ true) (sym kind) wide)

  no_match : list_any (λ t. not (has_width (united.kind_in p.value_types t))) p.values ≡ true → ⊥
  no_match e =
      let r = any_where (λ t. not (has_width (united.kind_in p.value_types t))) p.values e in
      let flat = not_false (has_width (united.kind_in p.value_types r.1)) r.3 in
      go r.1 (unwide_within p.value_types r.1 flat) (variable_wide r.0 r.1 r.2) (united.kind_in p.value_types r.1) refl flat
    where
      go : (t : ℕ) → t < length p.value_types → is_width (width_of (kind_at (map bound_type q.types) t)) ≡ true → (s : PatternType) → united.kind_in p.value_types t ≡ s → has_width (united.kind_in p.value_types t) ≡ false → ⊥
      go t l wide (sort.Concrete k) i flat = true≢false (sym (subst (λ k. is_width (width_of k) ≡ true) (written_is p m x proper ready os value plan q t k l i) wide) ∙ sym (ap has_width i) ∙ flat)
      go t l wide (sort.Variable v) i flat = true≢false (sym (ap has_width i) ∙ flat)

  pub widths_there : has_widths p ≡ true → list_all has_width p.value_types ≡ true
  widths_there e = elim (or_cases (list_all has_width p.value_types) (list_any (λ t. not (has_width (united.kind_in p.value_types t))) p.values) e) [ inl i ↦ i | inr i ↦ absurd (no_match i) ]

-- ---- a match
module _ (p : PatternModel) (m : Module) (x : ℕ) (proper : IsProper p) (ready : IsReady m) (range : IsInRange m) (os : List Operation) (value : Value) (plan : planned m.tree (is_verified m.tree) m.next p x ≡ Some (os, value))
    (q : Here m p x proper ready os value plan) (widths : list_all has_width p.value_types ≡ true) where
  abbrev ks : List BitsKind
  ks = map bound_type q.types

  abbrev good : ℕ → Bool
  good t = is_width (width_of (kind_at (map bound_type q.types) t))

  -- ---- bound types
  written_wide : (ss : List PatternType) → list_all has_width ss ≡ true → (j : ℕ) (term : TypeTerm) (k : BitsKind) → Stands j term (map written ss) → kind_of term ≡ Some k → is_width (width_of k) ≡ true
  written_wide [] e j term k s i = absurd (none-some (Some term) s)
  written_wide (s ∷ ss) e (suc j) term k at i = written_wide ss (and_parts (has_width s) (list_all has_width ss) e).1 j term k at i
  written_wide (sort.Concrete l ∷ ss) e zero term k at i =
      let same : type_of l ≡ term = same_Some _ _ (same_Some _ _ at) in
      let value_kinds : l ≡ k = same_Some _ _ (sym (kind_back l) ∙ ap kind_of same ∙ i) in
      subst (λ k. is_width (width_of k) ≡ true) value_kinds (and_parts (is_width (width_of l)) (list_all has_width ss) e).0
  written_wide (sort.Variable v ∷ ss) e zero term k at i = absurd (none-some term (same_Some _ _ at))

  of_value : (term : TypeTerm) (k : BitsKind) → (i : ℕ) × (v : Value) × Stands i v q.here × (type_of_value v m.tree ≡ Some term) → kind_of term ≡ Some k → is_width (width_of k) ≡ true
  of_value term k h e = range h.1 k (ap (λ o. given o kind_of) h.3 ∙ e)

  bound_wide : (j : ℕ) (term : TypeTerm) → Stands j term q.types → is_width (width_of (kind_at (map bound_type q.types) j)) ≡ true
  bound_wide j term s =
      let k = some_there (kind_of term) (q.value_types j term (stands_standing j term q.types s)) in
      let g = given_some (types_at m.tree (is_verified m.tree) 0 p.values q.here (map written p.value_types)) (types_at m.tree (is_verified m.tree) (old_place p) (map PatternOp.ty p.old) q.here) q.types q.are_types in
      let wide : is_width (width_of k.0) ≡ true =
      elim (types_from m.tree (is_verified m.tree) m.next p (old_place p) (map PatternOp.ty p.old) q.here g.0 q.types g.2 j term s) [
        | inl n ↦ elim (types_from m.tree (is_verified m.tree) m.next p 0 p.values q.here (map written p.value_types) g.0 g.1 j term n) [
          | inl w ↦ written_wide p.value_types widths j term k.0 w k.1
          | inr h ↦ of_value term k.0 h k.1
        ]
        | inr h ↦ of_value term k.0 h k.1
      ] in
      subst (λ k. is_width (width_of k) ≡ true) (sym (kind_is q.types j term k.0 s k.1)) wide

  typed_wide : (i t : ℕ) → IsTyped m.tree (is_verified m.tree) i t q.here q.types → good t ≡ true
  typed_wide i t w = bound_wide t w.term w.type_stands

  -- a type of a value is bound
  abbrev is_valued : ℕ → Bool
  is_valued t = list_any (eqb t) p.values || (list_any (eqb t) (map PatternOp.ty p.old) || list_any (eqb t) (map new_type p.new))

  valued_wide : (t : ℕ) → is_valued t ≡ true → good t ≡ true
  valued_wide t e =
      let are = typed_parts m.tree (is_verified m.tree) m.next p q.here q.types q.are_types in
      elim (or_cases (list_any (eqb t) p.values) (list_any (eqb t) (map PatternOp.ty p.old) || list_any (eqb t) (map new_type p.new)) e) [
        | inl i ↦
            let r = any_at t p.values i in
            let a = typed_at m.tree (is_verified m.tree) 0 p.values q.here q.types are.variables r.0 (slice_get_within p.values r.0 t r.1) in
            subst (λ t. good t ≡ true) (same_Some a.0 t (sym a.1 ∙ r.1)) (typed_wide (0 + r.0) a.0 a.2)
        | inr n ↦ elim (or_cases (list_any (eqb t) (map PatternOp.ty p.old)) (list_any (eqb t) (map new_type p.new)) n) [
          | inl i ↦
              let r = any_at t (map PatternOp.ty p.old) i in
              let a = typed_at m.tree (is_verified m.tree) (old_place p) (map PatternOp.ty p.old) q.here q.types are.pattern_ops r.0 (slice_get_within (map PatternOp.ty p.old) r.0 t r.1) in
              subst (λ t. good t ≡ true) (same_Some a.0 t (sym a.1 ∙ r.1)) (typed_wide (old_place p + r.0) a.0 a.2)
          | inr i ↦
              let built = (all_builds q.types q.parts.env q.parts.last m.next (new_place p) p.new q.here os q.parts.made).built in
              let b = built_types q.types q.parts.env q.parts.last p.new os built t i in
              bound_wide t b.0 b.1
        ]
      ]

  -- a literal is in the range of its type, so the type has a valid width
  literal_wide : (t : ℕ) (xs : List ExtraConstant) → list_all (extra_fits (map bound_type q.types)) xs ≡ true → list_any (is_literal_type t) xs ≡ true → good t ≡ true
  literal_wide t [] h e = absurd (true≢false (sym e))
  literal_wide t (x ∷ xs) h e =
      let r = and_parts (extra_fits (map bound_type q.types) x) (list_all (extra_fits (map bound_type q.types)) xs) h in
      elim (or_cases (is_literal_type t x) (list_any (is_literal_type t) xs) e) [ inl i ↦ one x r.0 i | inr i ↦ literal_wide t xs r.1 i ]
    where
      in_range : (c : Bool) (o : Option ℕ) → is_some (if c then o else None) ≡ true → c ≡ true
      in_range true o e = refl
      in_range false o e = absurd (true≢false (sym e))

      one : (x : ExtraConstant) → extra_fits (map bound_type q.types) x ≡ true → is_literal_type t x ≡ true → good t ≡ true
      one (extra.Literal l) h e =
          subst (λ t. good t ≡ true) (sym (eqb-true t l.ty e))
          (in_range (is_width (width_of (kind_at (map bound_type q.types) l.ty))) (literal_bits (type_of (kind_at (map bound_type q.types) l.ty)) l.negative l.magnitude) h)
      one (extra.SameAs i) h e = absurd (true≢false (sym e))

  -- the literals of a match are in range
  literals_in_range : list_all (extra_fits (map bound_type q.types)) p.extra ≡ true
  literals_in_range =
      let a = and_parts (list_all (is_requested (map bound_type q.types)) p.type_constraints) (list_all (extra_fits (map bound_type q.types)) p.extra && list_all (number_fits (map bound_type q.types)) p.given) q.parts.widths in
      (and_parts (list_all (extra_fits (map bound_type q.types)) p.extra) (list_all (number_fits (map bound_type q.types)) p.given) a.1).0

  -- a type that the pattern has is concrete, that of a literal, or bound
  had_wide : (t : ℕ) → is_had p t ≡ true → good t ≡ true
  had_wide t e = elim (or_cases (is_concrete (united.kind_in p.value_types t)) (list_any (is_literal_type t) p.extra || is_valued t) parts.1) [
    | inl i ↦ by_type (united.kind_in p.value_types t) refl i
    | inr n ↦ elim (or_cases (list_any (is_literal_type t) p.extra) (is_valued t) n) [ inl i ↦ literal_wide t p.extra literals_in_range i | inr i ↦ valued_wide t i ]
  ]
    where
      parts : (nat_lt t (length p.value_types) ≡ true) × ((is_concrete (united.kind_in p.value_types t) || (list_any (is_literal_type t) p.extra || is_valued t)) ≡ true)
      parts = and_parts (nat_lt t (length p.value_types)) _ e

      within : t < length p.value_types
      within = ltb-true t (length p.value_types) parts.0

      by_type : (s : PatternType) → united.kind_in p.value_types t ≡ s → is_concrete s ≡ true → good t ≡ true
      by_type (sort.Concrete k) i c =
          let at : slice_get p.value_types t ≡ Some (sort.Concrete k) = slice_get-get_or p.value_types t (sort.Concrete kind.Index) within ∙ ap (λ z. Some z) i in
          subst (λ k. is_width (width_of k) ≡ true) (sym (written_is p m x proper ready os value plan q t k within i)) (all_at has_width p.value_types t (sort.Concrete k) widths at)
      by_type (sort.Variable v) i c = absurd (true≢false (sym c))

  -- ---- kinds of all types
  abbrev kind_for : ℕ → BitsKind
  kind_for v = filled (kind_at (map bound_type q.types) v)

  abbrev all_kinds : List BitsKind
  all_kinds = numbered_kinds kind_for 0 p.value_types

  had_same : (t : ℕ) → is_had p t ≡ true → kind_at (map bound_type q.types) t ≡ kind_at all_kinds t
  had_same t e =
      let l = ltb-true t (length p.value_types) (and_parts (nat_lt t (length p.value_types)) _ e).0 in
      go (united.kind_in p.value_types t) refl ∙ sym (numbered_at kind_for 0 p.value_types t l)
    where
      no_more : (t : ℕ) → 0 + t ≡ t
      no_more t = omega arith

      go : (s : PatternType) → united.kind_in p.value_types t ≡ s → kind_at ks t ≡ kind_by kind_for (numbered_type (0 + t) (united.kind_in p.value_types t))
      go (sort.Concrete k) i = written_is p m x proper ready os value plan q t k (ltb-true t (length p.value_types) (and_parts (nat_lt t (length p.value_types)) _ e).0) i ∙ sym (ap (λ s. kind_by kind_for (numbered_type (0 + t) s)) i)
      go (sort.Variable v) i = sym (ap (λ s. kind_by kind_for (numbered_type (0 + t) s)) i ∙ ap kind_for (no_more t) ∙ filled_same (kind_at ks t) (had_wide t e))

  module _ (uses : uses_only (is_had p) p ≡ true) where
    -- outcomes at equal kinds
    still : (tys : List ℕ) (i : ℕ) (outs : List Outcome) → list_all (is_had p) tys ≡ true → AreOutcomes p (map bound_type q.types) i tys outs → AreOutcomes p all_kinds i tys outs
    still [] i [] u h = tt
    still [] i (o ∷ outs) u h = absurd h
    still (ty ∷ tys) i [] u h = absurd h
    still (ty ∷ tys) i (o ∷ outs) u h =
        let r = and_parts (is_had p ty) (list_all (is_had p) tys) u in
        (subst (λ k. IsOutcome k o) (had_same ty r.0) h.0, h.1, still tys (i + 1) outs r.1 h.2)

    pub keeps_for : HoldsAtAllWidths p → KeepsForOutcomes p (map bound_type q.types)
    keeps_for holds outs are =
        ap (λ s. keeps_outcomes s outs) (content_same (is_had p) p ks all_kinds had_same uses)
        ∙ holds all_kinds (kinds_wide kind_for (λ v. filled_wide (kind_at ks v)) 0 p.value_types widths) (kinds_of kind_for 0 p.value_types) outs
        (still p.values 0 outs (and_parts (list_all (is_had p) p.values) _ uses).0 are)

    pub kinded_there : is_kinded_by_form (numbered p) ≡ true → is_kinded_at (map bound_type q.types) p ≡ true
    kinded_there form =
        kinded_same (is_had p) p ks all_kinds had_same uses
        ∙ kinded_by_kinds (numbered p) form kind_for (λ v l. filled_wide (kind_at ks v)) (sym (fits_same (is_had p) p ks all_kinds had_same uses) ∙ q.parts.widths)
