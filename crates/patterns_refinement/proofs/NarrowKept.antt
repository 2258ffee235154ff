-- Patterns that a check found to hold up to a width refine what narrow modules compute, and so do runs of them.
use Rattle.std.proofs.Common.{◌≡◌, ℕ, zero, suc, ◌+◌, ◌-◌, ◌<◌, ◌≤◌, refl, ap, sym, ◌∙◌, subst, List, [], ◌∷◌, length, map, Bool, true, false, true≢false, ◌&&◌, eqb, eqb-true, Option, Some, None, get_or, inl, inr, arith}
use Rattle.std.specs.Prelude.{if◌then◌else◌, is_some, nat_le, nat_lt}
use Rattle.std.specs.List.{list_all, list_any, range_with_len}
use Rattle.std.proofs.lemmas.Bool.{and_parts, cases_lt, ltb-true, or_cases}
use Rattle.std.proofs.lemmas.Bool.Decides.{nat_tests}
use Rattle.std.proofs.lemmas.List.{get_or_past}
use Rattle.std.proofs.lemmas.List.FromFn.{get_or-map-range_with_len}
use Rattle.std.proofs.lemmas.Option.{none-some, same_Some, slice_get-get_or, slice_get_within}
use Rattle.ir_types.specs.declared.bits.BitsKind.{BitsKind}
use Rattle.ir_types.specs.declared.bits.BitsKind.TheVariants as kind
use Rattle.ir_types.specs.Bits.{width_of}
use Rattle.ir_types.specs.Terms.{TypeTerm}
use Rattle.ir_types.proofs.WordNumbers.{all_at}
use Rattle.ir_tree.specs.declared.value.Value.{Value}
use Rattle.ir_tree.specs.declared.value.Value.TheVariants.{Arg, Result}
use Rattle.ir_tree.specs.Meaning.{Operation}
use Rattle.ir_tree_laws.specs.Members.{In}
use Rattle.ir_tree_laws.specs.Values.{has_value, type_of_value}
use Rattle.ir_tree_laws.proofs.Reasoned.{some_there}
use Rattle.ir_event.specs.Modules.{Module}
use Rattle.dialects_int.specs.Folds.{kind_of}
use Rattle.patterns_base.specs.Looks.{is_verified}
use Rattle.patterns_base.specs.declared.rule.Rule.{Rule}
use Rattle.patterns_base.specs.Rewrites.{becomes}
use Rattle.patterns_soundness.specs.Accepted.{AreAccepted}
use Rattle.user_patterns_check.specs.Checks.{AlwaysKeeps}
use Rattle.user_patterns_check.specs.Families.{AreWidths}
use Rattle.user_patterns_check.specs.Outcomes.{given}
use Rattle.user_patterns_data.specs.declared.pattern.PatternType.{PatternType}
use Rattle.user_patterns_data.specs.declared.pattern.PatternType.TheVariants as sort
use Rattle.user_patterns_data.specs.declared.pattern.NewValue.{NewValue}
use Rattle.user_patterns_data.specs.declared.pattern.PatternOp.{PatternOp}
use Rattle.user_patterns_data.specs.Fitting.{content_with, kind_at, kind_with, kinds_with}
use Rattle.user_patterns_data.specs.Planning.{bound_type, old_place, planned}
use Rattle.user_patterns_data.specs.Shapes.{PatternModel}
use Rattle.user_patterns_data.specs.WellFormed.{preceding_is_valid, type_is_valid, sides_are_valid}
use Rattle.user_patterns_build.specs.CanBuild.{new_type}
use Rattle.user_patterns_build.specs.Unified.{first_same}
use Rattle.user_patterns_build.specs.Unified as united
use Rattle.user_patterns_apply.specs.Own.{UserPatternsAreAccepted}
use Rattle.greedy.specs.PatternSet.{RuleOrPatternModel, OfUserPattern, OfRule, rewrite_by_entry}
use Rattle.patterns_refinement.specs.Better.{kind_in}
use Rattle.patterns_refinement.specs.Keeping.{IsReady}
use Rattle.patterns_refinement.specs.Runs.{KeptAreKept, kept_rules}
use Rattle.patterns_refinement.specs.Passing.{KeptAt, is_kinded_at, new_is_defined, pattern_op_passes}
use Rattle.patterns_refinement.specs.Narrow.{HoldsNarrow, IsNarrow, IsNarrowly, NarrowKeep, NarrowRewritingKeeps, is_visited, is_narrow, is_settled, is_settled_as}
use Rattle.patterns_refinement.specs.UsedTypes.{new_uses}
use Rattle.patterns_refinement.proofs.Forms.{kind_is}
use Rattle.patterns_refinement.proofs.Going.{typed_at, typed_parts}
use Rattle.patterns_refinement.proofs.RuleListRunning.{led}
use Rattle.patterns_refinement.proofs.Running.{own_of, runs_under}
use Rattle.patterns_refinement.proofs.BoundValues.{IsTyped, stands_standing}
use Rattle.patterns_refinement.proofs.PassingMatched.{Here}
use Rattle.patterns_refinement.proofs.PassingMade.{all_kinds}
use Rattle.patterns_refinement.proofs.MatchedTypes.{any_at, mapped_at, written_is}
use Rattle.patterns_refinement.proofs.PassingKept.{passing_computing, passing_kinds, passing_ready, site_of}
use Rattle.patterns_refinement.proofs.NarrowRules.{narrow_rules_keep}
use Rattle.patterns_refinement.proofs.NarrowTypes.{all_parts, content_same, fits_same, kinded_same}

-- ---- widths of type variables: those of narrow kinds
abbrev chosen : ℕ → BitsKind → ℕ
chosen most k = if is_narrow most k then width_of k else 1

narrow_parts : (most w : ℕ) → is_narrow most (kind.Int w) ≡ true → (1 ≤ w) × (w ≤ most)
narrow_parts most w e = let q = and_parts (nat_le 1 w) (nat_le w most) e in (one 1 w q.0, one w most q.1)
  where
    one : (a b : ℕ) → nat_le a b ≡ true → a ≤ b
    one a b h = grind (arith, nat_tests)

chosen_is : (most : ℕ) (k : BitsKind) → is_narrow most k ≡ true → kind.Int (chosen most k) ≡ k
chosen_is most (kind.Int w) e = ap (λ b. kind.Int (if b then w else 1)) e
chosen_is most kind.Index e = absurd (true≢false (sym e))

chosen_within : (most : ℕ) (k : BitsKind) → 1 ≤ most → (1 ≤ chosen most k) × (chosen most k ≤ most)
chosen_within most kind.Index l = (omega arith, l)
chosen_within most (kind.Int w) l = go (is_narrow most (kind.Int w)) refl
  where
    go : (b : Bool) → is_narrow most (kind.Int w) ≡ b → (1 ≤ (if b then w else 1)) × ((if b then w else 1) ≤ most)
    go true e = narrow_parts most w e
    go false e = (omega arith, l)

are_widths : (most : ℕ) (f : ℕ → ℕ) → ((v : ℕ) → (1 ≤ f v) × (f v ≤ most)) → (a n : ℕ) → AreWidths n most (map f (range_with_len a n))
are_widths most f h a zero = tt
are_widths most f h a (suc n) = let q = h a in (q.0, q.1, are_widths most f h (a + 1) n)

-- ---- lists
some_narrow : (most : ℕ) (ks : List BitsKind) → list_all (is_narrow most) ks ≡ true → (i : ℕ) (k : BitsKind) → get_or (map (λ k. Some k) ks) i None ≡ Some k → is_narrow most k ≡ true
some_narrow most [] e i k h = absurd (none-some k h)
some_narrow most (j ∷ ks) e zero k h = subst (λ k. is_narrow most k ≡ true) (same_Some j k h) (and_parts (is_narrow most j) (list_all (is_narrow most) ks) e).0
some_narrow most (j ∷ ks) e (suc i) k h = some_narrow most ks (and_parts (is_narrow most j) (list_all (is_narrow most) ks) e).1 i k h

-- ---- the types of a match in a narrow module
module _ (most : ℕ) (p : PatternModel) (m : Module) (x : ℕ) (h : HoldsNarrow most p) (ready : IsReady m) (narrow : IsNarrow most m) (os : List Operation) (value : Value) (plan : planned m.tree (is_verified m.tree) m.next p x ≡ Some (os, value))
    (q : Here m p x h.proper ready os value plan) where
  abbrev ks : List BitsKind
  ks = map bound_type q.types

  -- the type of a value is narrow
  typed_narrow : (i t : ℕ) → IsTyped m.tree (is_verified m.tree) i t q.here q.types → is_narrow most (kind_at ks t) ≡ true
  typed_narrow i t w =
      let k = some_there (kind_of w.term) (q.value_types t w.term (stands_standing t w.term q.types w.type_stands)) in
      subst (λ k. is_narrow most k ≡ true) (sym (kind_is q.types t w.term k.0 w.type_stands k.1)) (narrow w.value k.0 (ap (λ o. given o kind_of) w.of_value ∙ k.1))

  visited_narrow : (t : ℕ) → is_visited most p t ≡ true → is_narrow most (kind_at ks t) ≡ true
  visited_narrow t e =
      let are = typed_parts m.tree (is_verified m.tree) m.next p q.here q.types q.are_types in
      elim (or_cases (list_any (eqb t) p.values) (list_any (eqb t) (map PatternOp.ty p.old)) e) [
        | inl i ↦
            let r = any_at t p.values i in
            let a = typed_at m.tree (is_verified m.tree) 0 p.values q.here q.types are.variables r.0 (slice_get_within p.values r.0 t r.1) in
            subst (λ t. is_narrow most (kind_at ks t) ≡ true) (same_Some a.0 t (sym a.1 ∙ r.1)) (typed_narrow (0 + r.0) a.0 a.2)
        | inr i ↦
            let r = any_at t (map PatternOp.ty p.old) i in
            let a = typed_at m.tree (is_verified m.tree) (old_place p) (map PatternOp.ty p.old) q.here q.types are.pattern_ops r.0 (slice_get_within (map PatternOp.ty p.old) r.0 t r.1) in
            subst (λ t. is_narrow most (kind_at ks t) ≡ true) (same_Some a.0 t (sym a.1 ∙ r.1)) (typed_narrow (old_place p + r.0) a.0 a.2)
      ]

  -- a settled type is one of the pattern's
  settled_within : (t : ℕ) → is_settled most p t ≡ true → t < length p.value_types
  settled_within t e = elim (cases_lt t (length p.value_types)) [
    | inl l ↦ l
    | inr l ↦ absurd (true≢false (sym e ∙ ap (is_settled_as most p t) (get_or_past p.value_types t (sort.Concrete kind.Index) l)))
  ]

  settled_narrow : (t : ℕ) → is_settled most p t ≡ true → is_narrow most (kind_at ks t) ≡ true
  settled_narrow t e = go (united.kind_in p.value_types t) refl e
    where
      go : (j : PatternType) → united.kind_in p.value_types t ≡ j → is_settled_as most p t j ≡ true → is_narrow most (kind_at ks t) ≡ true
      go (sort.Concrete k) i s = subst (λ k. is_narrow most k ≡ true) (sym (written_is p m x h.proper ready os value plan q t k (settled_within t e) i)) s
      go (sort.Variable v) i s = visited_narrow t (and_parts (is_visited most p t) (eqb (first_same (sort.Variable v) p.value_types) t) s).0

  -- the widths of the pattern's type variables
  abbrev width_for : ℕ → ℕ
  width_for v = chosen most (kind_at ks (first_same (sort.Variable v) p.value_types))

  abbrev widths : List ℕ
  widths = map width_for (range_with_len 0 p.types)

  variable_within : (t v : ℕ) → t < length p.value_types → united.kind_in p.value_types t ≡ sort.Variable v → v < p.types
  variable_within t v l e =
      let a = and_parts (preceding_is_valid p) (sides_are_valid p) h.proper.wellformed in
      let b = and_parts (list_all (type_is_valid p) p.value_types) _ a.0 in
      ltb-true v p.types (all_at (type_is_valid p) p.value_types t (sort.Variable v) b.0 (slice_get-get_or p.value_types t (sort.Concrete kind.Index) l ∙ ap (λ z. Some z) e))

  settled_same : (t : ℕ) → is_settled most p t ≡ true → kind_at ks t ≡ kind_at (kinds_with widths p.value_types) t
  settled_same t e = go (united.kind_in p.value_types t) refl e
    where
      go : (j : PatternType) → united.kind_in p.value_types t ≡ j → is_settled_as most p t j ≡ true → kind_at ks t ≡ kind_at (kinds_with widths p.value_types) t
      go (sort.Concrete k) i s = let l = settled_within t e in written_is p m x h.proper ready os value plan q t k l i ∙ sym (mapped_at (kind_with widths) p.value_types t l ∙ ap (kind_with widths) i)
      go (sort.Variable v) i s =
          let l = settled_within t e in
          let r = and_parts (is_visited most p t) (eqb (first_same (sort.Variable v) p.value_types) t) s in
          let first : first_same (sort.Variable v) p.value_types ≡ t = eqb-true (first_same (sort.Variable v) p.value_types) t r.1 in
          let at : get_or widths v 0 ≡ chosen most (kind_at ks t) = get_or-map-range_with_len width_for 0 p.types v v 0 (variable_within t v l i) (omega arith) ∙ ap (λ z. chosen most (kind_at ks z)) first in
          sym (mapped_at (kind_with widths) p.value_types t l ∙ ap (kind_with widths) i ∙ ap (λ w. kind.Int w) at ∙ chosen_is most (kind_at ks t) (visited_narrow t r.0))

  widths_are : AreWidths p.types most widths
  widths_are = are_widths most width_for (λ v. chosen_within most (kind_at ks (first_same (sort.Variable v) p.value_types)) h.some) 0 p.types

  pub keeps_here : AlwaysKeeps (content_with (map bound_type q.types) p)
  keeps_here = subst AlwaysKeeps (sym (content_same (is_settled most p) p ks (kinds_with widths p.value_types) settled_same h.settled)) (h.holds.0 widths widths_are)

  pub kinded_here : is_kinded_at (map bound_type q.types) p ≡ true
  kinded_here =
      kinded_same (is_settled most p) p ks (kinds_with widths p.value_types) settled_same h.settled
      ∙ h.kinded widths widths_are (sym (fits_same (is_settled most p) p ks (kinds_with widths p.value_types) settled_same h.settled) ∙ q.parts.widths)

  -- new values are narrow
  news_narrow : (ws : List NewValue) → list_all (new_uses (is_settled most p)) ws ≡ true → list_all (is_narrow most) (map (λ w. kind_at (map bound_type q.types) (new_type w)) ws) ≡ true
  news_narrow [] e = refl
  news_narrow (w ∷ ws) e = let r = and_parts (new_uses (is_settled most p) w) (list_all (new_uses (is_settled most p)) ws) e in (λ i. settled_narrow (new_type w) r.0 i && news_narrow ws r.1 i)

  pub kinds_narrow : (kinded : is_kinded_at (map bound_type q.types) p ≡ true) (v : Value) (k : BitsKind) → all_kinds m p x h.proper ready os value plan q kinded v ≡ Some k → is_narrow most k ≡ true
  kinds_narrow kinded (Arg y r j) k e = narrow (Arg y r j) k e
  kinds_narrow kinded (Result y j) k e = go (nat_lt y m.next) e
    where
      last : list_all (new_uses (is_settled most p)) p.new ≡ true
      last = (all_parts (is_settled most p) p h.settled).news

      go : (b : Bool) → (if b then kind_in m.tree (Result y j) else get_or (map (λ k. Some k) (map (λ w. kind_at (map bound_type q.types) (new_type w)) p.new)) (y - m.next) None) ≡ Some k → is_narrow most k ≡ true
      go true e = narrow (Result y j) k e
      go false e = some_narrow most (map (λ w. kind_at (map bound_type q.types) (new_type w)) p.new) (news_narrow p.new last) (y - m.next) k e

-- ---- the laws
pub narrow_keep : UserPatternsAreAccepted → NarrowKeep
narrow_keep accepted most p m n x h ready narrow e =
    let t = and_parts (list_all pattern_op_passes p.old) (list_all new_is_defined p.new) h.passing in
    let s = site_of accepted p h.proper m n x ready e in
    let r = s.applied in
    let kinded = kinded_here most p m x h ready narrow r.made r.value r.plan s.here in
    let keeps = keeps_here most p m x h ready narrow r.made r.value r.plan s.here in (
      (λ v k i.
          let there : has_value v n.tree ≡ true = has_kind n.tree v k i in
          kinds_narrow most p m x h ready narrow r.made r.value r.plan s.here kinded v k (sym (passing_kinds accepted p h.proper m n x ready e s kinded v there) ∙ i)),
      (passing_ready accepted p h.proper m n x ready e s kinded, passing_computing accepted p h.proper m n x ready e s kinded t.0 t.1 keeps),
    )
  where
    has_kind : (t : Operation) (v : Value) (k : BitsKind) → kind_in t v ≡ Some k → has_value v t ≡ true
    has_kind t v k i = go (type_of_value v t) i
      where
        go : (o : Option TypeTerm) → given o kind_of ≡ Some k → is_some o ≡ true
        go None i = absurd (none-some k i)
        go (Some ty) i = refl

pub narrow_rewriting_keeps : AreAccepted → KeptAreKept → UserPatternsAreAccepted → NarrowRewritingKeeps
narrow_rewriting_keeps rules kept accepted most some ts holds limit m n k e ready narrow i = let l = led ts limit k m n e i in runs_under (IsNarrow most) ts (λ t i. one t (holds t i)) l.0 m n narrow ready l.1
  where
    one : (t : RuleOrPatternModel) → IsNarrowly most t → (m n : Module) (x : ℕ) → IsNarrow most m → IsReady m → rewrite_by_entry t m x ≡ becomes n → IsNarrow most n × KeptAt m n x
    one (OfUserPattern p) h m n x narrow ready e = narrow_keep accepted most p m n x h ready narrow (own_of p m n x e)
    one (OfRule r) i m n x narrow ready e =
        let k = kept (r ∷ []) only r (inl refl) in
        (narrow_rules_keep rules most some r i m n x ready narrow e, (k.0 m n x ready e, (λ a done c. k.1 m n x a done ready c e)))
      where
        only : (o : Rule) → In o (r ∷ []) → In o kept_rules
        only o (inl e) = subst (λ o. In o kept_rules) (sym e) i
        only o (inr n) = absurd n
