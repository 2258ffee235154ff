-- There are outcomes for the new operations of a pattern that agree with those of the tree.
use Rattle.std.proofs.Common.{◌≡◌, ℕ, zero, suc, ◌+◌, ◌-◌, ◌<◌, ◌≤◌, refl, ap, sym, ◌∙◌, subst, List, [], ◌∷◌, length, map, Bool, true, false, true≢false, ◌&&◌, eqb, eqb-true, Option, Some, None, slice_get, inl, inr, arith, eq-eqb}
use Rattle.std.specs.Prelude.{nat_le, is_some, option_map, if◌then◌else◌}
use Rattle.std.specs.List.{list_all}
use Rattle.std.proofs.lemmas.Bool.{and_parts, cases_lt, cases_eq}
use Rattle.std.proofs.lemmas.Bool.Decides.{nat_tests}
use Rattle.std.proofs.lemmas.List.{length-append, length-map}
use Rattle.std.proofs.lemmas.Option.{get_or_from_slice_get, slice_get-map, slice_get_within, same_Some}
use Rattle.ir_types.specs.declared.bits.BitsKind.{BitsKind}
use Rattle.ir_types.specs.declared.bits.BitsKind.TheVariants as kind
use Rattle.ir_types.specs.Terms.{TypeTerm}
use Rattle.ir_tree.specs.declared.value.Value.{Value}
use Rattle.ir_tree.specs.declared.value.Value.TheVariants.{Result}
use Rattle.ir_tree.specs.Uses.{same_value}
use Rattle.ir_tree.specs.Meaning.{Operation}
use Rattle.ir_tree_laws.specs.Values.{has_value}
use Rattle.dialects_int.specs.Folds.{Known}
use Rattle.user_patterns_check.specs.Contents.{Content}
use Rattle.user_patterns_check.specs.Checks.{AlwaysKeeps, keeps, old_steps, refines, same_known}
use Rattle.user_patterns_check.specs.Checks as checks
use Rattle.user_patterns_check.specs.Outcomes.{Outcome, given, run}
use Rattle.patterns_laws.proofs.KnownFolds.{given_at, given_some}
use Rattle.user_patterns_data.specs.declared.pattern.PatternOp.{PatternOp}
use Rattle.user_patterns_data.specs.Fitting.{content_with, fits, extra_step, kind_at, number_step, pattern_op_step}
use Rattle.user_patterns_data.specs.Matching.{Header, BoundValues, bound, nothing, ops_match, placed, binding_at, types_at, written}
use Rattle.user_patterns_data.specs.Planning.{Plan, all_made, constants_known, extra_known, extra_place, is_numeric, bound_type, new_place, old_place, outcomes, places, planned, planned_by, planned_from, typed}
use Rattle.user_patterns_data.specs.Shapes.{PatternModel}
use Rattle.user_patterns_data.specs.WellFormed.{constraint_is_valid, preceding_is_valid, extra_is_valid, is_new, is_type, is_variable, is_well_formed, type_is_valid, new_begins, new_ends, news_are_valid, numbers_are_valid, old_begins, olds_are_valid, sides_are_valid}
use Rattle.user_patterns_build.specs.CanBuild.{can_build, is_named, result_type, same_number, spares}
use Rattle.ir_tree.proofs.Replaced.{same_value_true}
use Rattle.user_patterns_check.proofs.Following.{run_after}
use Rattle.user_patterns_check.proofs.Keeping.{stays_defined, stays_the_value}
use Rattle.dialects_int.proofs.KnownOperands.{same_itself}
use Rattle.user_patterns_apply.proofs.FoundBuilt.{when_is}
use Rattle.patterns_refinement.specs.Meaning.{Assignment, FitsEach, IsOfType, TypedEach}
use Rattle.patterns_refinement.specs.Applied.{Agree, CheckedPlansGo, Goes, IsBelow, IsFound, IsProper, PlansGo, all_named, extra_kind, is_typed, kinds_after, kinds_given, kinds_matched, matched}
use Rattle.patterns_refinement.proofs.BoundValues.{AllHold, AllTyped, IsTyped, Stands, all_hold, all_typed, all_typed_still, bound_holds, one_stands, standing_stands}
use Rattle.patterns_refinement.proofs.Trees.{FoundFit, TypesFound, found_fit, types_found, value_below}
use Rattle.patterns_refinement.proofs.Steps.{Grows, run_grows}
use Rattle.patterns_refinement.proofs.Forms.{FitThere, fit_there, kind_is}
use Rattle.patterns_refinement.proofs.OfKinds.{OfKinds, extras_run, numbers_run}
use Rattle.patterns_refinement.proofs.OfBits.{AllOfBits, run_bits}
use Rattle.patterns_refinement.proofs.Numbers.{Alike, given_speak, number_fixed, run_alike}
use Rattle.patterns_refinement.proofs.Beginning.{AreKnown, Begins, are_known, begins, extra_shows, planner_alike}
use Rattle.patterns_refinement.proofs.Olds.{OldsRun, ShowsOld, olds_run}
use Rattle.patterns_refinement.proofs.News.{HasNumbers, ShowsNew, extended, extended_agrees, extended_later, new_place_of, news_run}

-- ---- from a check
-- a side's steps have a result that refines the old outcome
abbrev Shown : Outcome → ℕ → Option (List Outcome) → Type 0
Shown old place r = (new : List Outcome) × (x : Outcome) × (r ≡ Some new) × (slice_get new place ≡ Some x) × (refines old x ≡ true)

known_itself : (v : Known) → same_known v v ≡ true
known_itself v = λ i. same_itself v.0 i && eq-eqb v.1 v.1 refl i

kept_by : (s : Content) (values : List ℕ) (env : List Outcome) (old : Outcome) → keeps s values ≡ true
    → old_steps s values [] ≡ Some env → slice_get env s.old_result ≡ Some old → Shown old s.new_result (run s.new env)
kept_by s values env old k ran is = (defined.0, defined.1, defined.2, defined.3, refined old is)
  where
    defined : (new : List Outcome) × (x : Outcome) × (run s.new env ≡ Some new) × (slice_get new s.new_result ≡ Some x)
    defined = stays_defined s values env old k ran is

    refined : (o : Outcome) → slice_get env s.old_result ≡ Some o → refines o defined.1 ≡ true
    refined None e = refl
    refined (Some v) e =
        let value = stays_the_value s values env defined.0 v k ran e defined.2 in
        ap (refines (Some v)) (same_Some defined.1 (Some v) (sym defined.3 ∙ value)) ∙ known_itself v

-- ---- from a plan
module _ (t : Operation) (verified : Header → Bool) (n : ℕ) (p : PatternModel) where
  pub record IsPlanned (b : BoundValues Value) (ts : BoundValues TypeTerm) (os : List Operation) (v : Value) : Type 0 where
    pub numeric : list_all is_numeric ts ≡ true
    pub widths : fits (map bound_type ts) p ≡ true
    pub constants : constants_known t verified n p b ≡ true
    pub env : List Outcome
    pub numbers : run (Content.given (content_with (map bound_type ts) p)) (outcomes t verified n p 0 p.values b) ≡ Some env
    pub extra : extra_known t verified n p (extra_place p) p.extra b env ≡ true
    pub last : BoundValues Value
    pub made : all_made ts env n (new_place p) p.new b ≡ Some (os, last)
    pub result : binding_at p.result last ≡ Some v

  plan_parts : (b : BoundValues Value) (ts : BoundValues TypeTerm) (os : List Operation) (v : Value) → planned_by t verified n p b ts ≡ Some (os, v) → IsPlanned b ts os v
  plan_parts b ts os v e =
      let ks = map bound_type ts in
      let a = when_is (list_all is_numeric ts) _ (os, v) e in
      let w = when_is (fits ks p && constants_known t verified n p b) (given (run (Content.given (content_with ks p)) (outcomes t verified n p 0 p.values b)) (planned_from t verified n p b ts)) (os, v) a.1 in
      let parts = and_parts (fits ks p) (constants_known t verified n p b) w.0 in
      let g = given_some (run (Content.given (content_with ks p)) (outcomes t verified n p 0 p.values b)) (planned_from t verified n p b ts) (os, v) w.1 in
      let f = when_is (extra_known t verified n p (extra_place p) p.extra b g.0) (given (all_made ts g.0 n (new_place p) p.new b) (λ (r : List Operation × BoundValues Value). given (binding_at p.result r.1) (λ v. Some (r.0, v)))) (os, v) g.2 in
      let r = given_some (all_made ts g.0 n (new_place p) p.new b) (λ (r : List Operation × BoundValues Value). given (binding_at p.result r.1) (λ v. Some (r.0, v))) (os, v) f.1 in
      let s = given_some (binding_at p.result r.0.1) (λ v. Some (r.0.0, v)) (os, v) r.2 in
      let same : (r.0.0, s.0) ≡ (os, v) = same_Some _ _ s.2 in
      record {
        numeric = a.0;
        widths = parts.0;
        constants = parts.1;
        env = g.0;
        numbers = g.1;
        extra = f.0;
        last = r.0.1;
        made = r.1 ∙ ap (λ (q : Plan). Some (q.0, r.0.1)) same;
        result = s.1 ∙ ap (λ (q : Plan). Some q.1) same;
      }

  module _ (x : ℕ) where
    abbrev root_bound : Option (BoundValues Value)
    root_bound = bound same_value p.root (Result x 0) (nothing (places p))

    pub planned_as : planned t verified n p x ≡ given (matched t verified p x) (λ c. given (typed t verified n p c) (planned_by t verified n p c))
    unfolding planned
    planned_as = go root_bound
      where
        go : (o : Option (BoundValues Value)) → given o (λ b. given (ops_match t verified (placed (old_place p) p.old) b) (λ c. given (typed t verified n p c) (planned_by t verified n p c)))
            ≡ given (given o (λ b. ops_match t verified (placed (old_place p) p.old) b)) (λ c. given (typed t verified n p c) (planned_by t verified n p c))
        go None = refl
        go (Some b) = refl

    pub planned_there : (b : BoundValues Value) (ts : BoundValues TypeTerm) (os : List Operation) (v : Value) → matched t verified p x ≡ Some b → typed t verified n p b ≡ Some ts → planned t verified n p x ≡ Some (os, v) → IsPlanned b ts os v
    planned_there b ts os v m y e =
        plan_parts b ts os v
        (sym (planned_as ∙ given_at (matched t verified p x) b (λ c. given (typed t verified n p c) (planned_by t verified n p c)) (planned_by t verified n p b ts) m
        (given_at (typed t verified n p b) ts (planned_by t verified n p b) (planned_by t verified n p b ts) y refl)) ∙ e)

    -- the matched operations
    pub record IsMatched (b : BoundValues Value) : Type 0 where
      pub pattern_ops : AllHold t verified (old_place p) p.old b
      pub root : Stands p.root (Result x 0) b

    pub matched_parts : (b : BoundValues Value) → matched t verified p x ≡ Some b → IsMatched b
    matched_parts b e =
        let g = given_some root_bound (λ b. ops_match t verified (placed (old_place p) p.old) b) b e in
        let r = bound_holds same_value same_value_true p.root (Result x 0) (nothing (places p)) g.0 g.1 in
        let h = all_hold t verified (old_place p) p.old g.0 b g.2 in
        record { pattern_ops = h.0; root = h.1 p.root (Result x 0) r.0 }

  pub record AreTyped (b : BoundValues Value) (ts : BoundValues TypeTerm) : Type 0 where
    pub variables : AllTyped t verified 0 p.values b ts
    pub pattern_ops : AllTyped t verified (old_place p) (map PatternOp.ty p.old) b ts

  pub typed_parts : (b : BoundValues Value) (ts : BoundValues TypeTerm) → typed t verified n p b ≡ Some ts → AreTyped b ts
  typed_parts b ts e =
      let g = given_some (types_at t verified 0 p.values b (map written p.value_types)) (types_at t verified (old_place p) (map PatternOp.ty p.old) b) ts e in
      let r = all_typed t verified 0 p.values b (map written p.value_types) g.0 g.1 in
      let s = all_typed t verified (old_place p) (map PatternOp.ty p.old) b g.0 ts g.2 in
      record { variables = all_typed_still t verified 0 p.values b g.0 ts s.1 r.0; pattern_ops = s.0 }

-- ---- from a well-formed pattern that can be built
module _ (p : PatternModel) where
  pub record IsWellformed : Type 0 where
    pub constants : list_all (is_variable p) p.constants ≡ true
    pub extra : list_all (extra_is_valid p) p.extra ≡ true
    pub numbers : numbers_are_valid p (old_begins p) p.given ≡ true
    pub root : p.root + 1 ≡ new_begins p
    pub olds : olds_are_valid p (new_begins p) p.old ≡ true
    pub news : news_are_valid p (new_ends p) p.new ≡ true
    pub result : is_new p (new_ends p) p.result ≡ true

  pub wellformed_parts : is_well_formed p ≡ true → IsWellformed
  wellformed_parts e =
      let a = and_parts (preceding_is_valid p) (sides_are_valid p) e in
      let b = and_parts (list_all (type_is_valid p) p.value_types) _ a.0 in
      let c = and_parts (list_all (is_type p) p.values) _ b.1 in
      let d = and_parts (list_all (is_variable p) p.constants) _ c.1 in
      let f = and_parts (list_all (extra_is_valid p) p.extra) _ d.1 in
      let g = and_parts (list_all (constraint_is_valid p) p.type_constraints) _ f.1 in
      let h = and_parts (eqb (p.root + 1) (new_begins p)) _ a.1 in
      let i = and_parts (olds_are_valid p (new_begins p) p.old) _ h.1 in
      let j = and_parts (news_are_valid p (new_ends p) p.new) _ i.1 in
      record {
        constants = d.0;
        extra = f.0;
        numbers = g.1;
        root = eqb-true (p.root + 1) (new_begins p) h.0;
        olds = i.0;
        news = j.0;
        result = j.1;
      }

  pub record IsMade : Type 0 where
    pub named : list_all is_named p.new ≡ true
    pub root : old_place p ≤ p.root

  pub made_parts : can_build p ≡ true → IsMade
  made_parts e =
      let a = and_parts (list_all is_named p.new) _ e in
      let b = and_parts (list_all (spares p.root) p.new) _ a.1 in
      record { named = a.0; root = above (result_type p) (nat_le (old_place p) p.root) refl b.1 }
    where
      above : (o : Option ℕ) (b : Bool) → nat_le (old_place p) p.root ≡ b → same_number o (if b then option_map PatternOp.ty (slice_get p.old (p.root - old_place p)) else None) ≡ true → old_place p ≤ p.root
      above o true i e = at_least (old_place p) p.root i
        where
          at_least : (m k : ℕ) → nat_le m k ≡ true → m ≤ k
          at_least m k h = grind (arith, nat_tests)
      above None false i e = absurd (true≢false (sym e))
      above (Some r) false i e = absurd (true≢false (sym e))

-- ---- put together
pub typed_at : (t : Operation) (verified : Header → Bool) (k : ℕ) (tys : List ℕ) (b : BoundValues Value) (ts : BoundValues TypeTerm) → AllTyped t verified k tys b ts → (i : ℕ) → i < length tys → (ty : ℕ) × (slice_get tys i ≡ Some ty) × IsTyped t verified (k + i) ty b ts
typed_at t verified k [] b ts h i l = absurd (omega (arith, l))
typed_at t verified k (ty ∷ tys) b ts h zero l = (ty, refl, subst (λ j. IsTyped t verified j ty b ts) (same k) h.0)
  where
    same : (k : ℕ) → k ≡ k + 0
    same k = omega arith
typed_at t verified k (ty ∷ tys) b ts h (suc i) l =
    let r = typed_at t verified (k + 1) tys b ts h.1 i (omega (arith, l)) in
    (r.0, r.1, subst (λ j. IsTyped t verified j r.0 b ts) (same k i) r.2)
  where
    same : (k i : ℕ) → k + 1 + i ≡ k + suc i
    same k i = omega arith

pub has_type : (t : Operation) (verified : Header → Bool) (k : ℕ) (tys : List ℕ) (b : BoundValues Value) (ts : BoundValues TypeTerm) → AllTyped t verified k tys b ts → (j : ℕ) (v : Value) → k ≤ j → j < k + length tys → Stands j v b → has_value v t ≡ true
has_type t verified k [] b ts h j v low high s = absurd (omega (arith, low, high))
has_type t verified k (ty ∷ tys) b ts h j v low high s = elim (cases_eq j k) [
  | inl e ↦ ap (λ w. has_value w t) (one_stands k v h.0.value b (subst (λ z. Stands z v b) e s) h.0.stands) ∙ ap is_some h.0.of_value
  | inr m ↦ has_type t verified (k + 1) tys b ts h.1 j v (omega (arith, low, m)) (omega (arith, high)) s
]

module _ (t : Operation) (verified : Header → Bool) (n : ℕ) (p : PatternModel) (x : ℕ) (a : Assignment) (done : ℕ → Bool) (f : IsWellformed p) (m : IsMade p) (named : all_named p ≡ true) (below : IsBelow n t) (found_fits : FoundFit a done t) (of : TypesFound a t)
    (kept : IsFound t verified n p x a done) (types : is_typed (map bound_type kept.types) p ≡ true) (always : AlwaysKeeps (content_with (map bound_type kept.types) p))
    (os : List Operation) (v : Value) (q : IsPlanned t verified n p kept.here kept.types os v) where
  abbrev b : BoundValues Value
  b = kept.here

  abbrev ts : BoundValues TypeTerm
  ts = kept.types

  abbrev ks : List BitsKind
  ks = map bound_type ts

  abbrev steps : Content
  steps = content_with ks p

  all_fit : FitThere t verified a b
  all_fit = fit_there t verified a done found_fits b kept.are_done kept.are_unbroken

  knows : AreKnown t verified a b ts
  knows = are_known t verified a b ts all_fit

  typed_as : AreTyped t verified n p b ts
  typed_as = typed_parts t verified n p b ts kept.are_types

  found : IsMatched t verified n p x b
  found = matched_parts t verified n p x b kept.is_matched

  start : Begins t verified a b ts 0 p.values []
  start = begins t verified a b ts of 0 p.values [] refl typed_as.variables (λ i v l s. kept.variables i v (omega (arith, l)) s)

  -- the computed numbers
  record Numbers : Type 0 where
    pub env : List Outcome
    pub ran : run steps.given start.env ≡ Some env
    pub alike : Alike p q.env env
    pub long : length env ≡ old_place p
    pub stays : (k : ℕ) (o : Outcome) → slice_get start.env k ≡ Some o → slice_get env k ≡ Some o

  numbers : Numbers
  numbers =
      let r =
      run_alike p steps.given (outcomes t verified n p 0 p.values b) start.env q.env (given_speak p ks (old_begins p) f.extra f.numbers)
      (planner_alike t verified a b ts n p knows f.constants q.constants start.env (omega (arith, start.long)) (λ j v l s. start.shows j v (omega arith) (omega (arith, l)) s)) q.numbers in
      let g = run_grows steps.given start.env r.0 r.1 in
      record {
        env = r.0;
        ran = r.1;
        alike = r.2;
        long = omega (arith, g.longer, start.long, length-append (map (extra_step ks) p.extra) (map (number_step ks) p.given), length-map p.extra (extra_step ks), length-map p.given (number_step ks));
        stays = g.stays;
      }

  numbers_show : ShowsOld t verified a b ts p all_fit kept.of_kinds of (old_place p) numbers.env
  numbers_show j w o high s = elim o [
    | inl l ↦ elim (cases_lt j (length p.values)) [
      | inl i ↦ numbers.stays j (a w) (start.shows j w (omega arith) (omega (arith, i)) s)
      | inr i ↦ sym (numbers.alike.same j (inr i)) ∙ extra_shows t verified a b ts n p knows q.env (extra_place p) p.extra q.extra j w i (omega (arith, l)) s
    ]
    | inr l ↦ absurd (omega (arith, l, high))
  ]

  olds : OldsRun t verified a b ts p all_fit kept.of_kinds of (old_place p) p.old numbers.env
  olds = olds_run t verified a b ts p all_fit kept.of_kinds of (new_begins p) (old_place p) p.old numbers.env numbers.long (omega arith) (omega arith) f.olds named found.pattern_ops typed_as.pattern_ops numbers_show

  olds_grow : Grows (map (pattern_op_step ks) p.old) numbers.env olds.new
  olds_grow = run_grows (map (pattern_op_step ks) p.old) numbers.env olds.new olds.ran

  olds_ran : old_steps steps start.values [] ≡ Some olds.new
  olds_ran =
      ap (λ c. if c then given (given (checks.bound steps.value_types start.values []) (run steps.given)) (run steps.old) else None) q.widths
      ∙ given_at (given (checks.bound steps.value_types start.values []) (run steps.given)) numbers.env (run steps.old) (Some olds.new)
      (given_at (checks.bound steps.value_types start.values []) start.env (run steps.given) (Some numbers.env) start.are numbers.ran) olds.ran

  root_there : slice_get olds.new p.root ≡ Some (a (Result x 0))
  root_there = olds.shows p.root (Result x 0) (inr (omega (arith, m.root))) (omega (arith, f.root)) found.root

  shown_new : Shown (a (Result x 0)) p.result (run steps.new olds.new)
  shown_new = kept_by steps start.values olds.new (a (Result x 0)) (always start.values start.below) olds_ran root_there

  abbrev whole : List Outcome
  whole = shown_new.0

  abbrev c : Assignment
  c = extended a n (new_place p) whole

  agree : Agree n a c
  agree = extended_agrees a n (new_place p) whole

  olds_show : ShowsNew ts kept.of_kinds p q.env c (new_place p) olds.new b
  olds_show j w o high s = elim o [
    | inl l ↦
        olds.shows j w (inl (omega (arith, l))) (omega (arith, high)) s ∙ ap (λ z. Some z) (sym (agree w (value_below n t below w (has_type t verified 0 p.values b ts typed_as.variables j w (omega arith) (omega (arith, l)) s))))
    | inr l ↦ absurd (omega (arith, l, high))
  ]

  has_numbers : HasNumbers ts kept.of_kinds p q.env c olds.new
  has_numbers i y e s = olds_grow.stays i (Some y) (sym (numbers.alike.same i (number_fixed p (old_begins p) i e)) ∙ s)

  -- the numbers have their kinds
  record Started (i : ℕ) (y : Known) : Type 0 where
    pub ty : ℕ
    pub at : slice_get p.values i ≡ Some ty
    pub term : TypeTerm
    pub stands : Stands ty term ts
    pub typed : IsOfType term (Some y)

  started_at : (i : ℕ) (y : Known) → slice_get start.env i ≡ Some (Some y) → Started i y
  started_at i y e =
      let l = slice_get_within start.env i (Some y) e in
      let r = typed_at t verified 0 p.values b ts typed_as.variables i (omega (arith, l, start.long)) in
      let w = r.2 in
      let shown = start.shows i w.value (omega arith) (omega (arith, l, start.long)) (subst (λ z. Stands z w.value b) (no_more i) w.stands) in
      record { ty = r.0; at = r.1; term = w.term; stands = w.type_stands; typed = subst (λ o. IsOfType w.term o) (same_Some _ _ (sym shown ∙ e)) (of w.value w.term w.of_value) }
    where
      no_more : (k : ℕ) → 0 + k ≡ k
      no_more k = omega arith

  started_bits : AllOfBits start.env
  started_bits i y e = (started_at i y e).typed.1

  started : OfKinds (map (kind_at ks) p.values) start.env
  started = record {
    long = length-map p.values (kind_at ks) ∙ sym (start.long ∙ no_more (length p.values));
    are = λ i y e.
        let w = started_at i y e in
        sym (get_or_from_slice_get (map (kind_at ks) p.values) i (kind_at ks w.ty) (kind.Int 0) (slice_get-map (kind_at ks) p.values i ∙ ap (option_map (kind_at ks)) w.at) ∙ kind_is ts w.ty w.term y.0 w.stands w.typed.0);
  }
    where
      no_more : (k : ℕ) → 0 + k ≡ k
      no_more k = omega arith

  numbered : OfKinds (kinds_given ks p) numbers.env
  numbered =
      let g = given_some (run (map (extra_step ks) p.extra) start.env) (run (map (number_step ks) p.given)) numbers.env (sym (run_after (map (extra_step ks) p.extra) (map (number_step ks) p.given) start.env) ∙ numbers.ran) in
      numbers_run ks p.given (kinds_after (extra_kind ks) p.extra (map (kind_at ks) p.values)) g.0 numbers.env (extras_run ks p.extra (map (kind_at ks) p.values) start.env g.0 started g.1) g.2

  matched_kinds : OfKinds (kinds_matched ks p) olds.new
  matched_kinds = olds.of_kinds (kinds_given ks p) numbered

  matched_bits : AllOfBits olds.new
  matched_bits = run_bits (map (pattern_op_step ks) p.old) numbers.env olds.new (run_bits steps.given start.env numbers.env started_bits numbers.ran) olds.ran

  news : FitsEach c n os × ShowsNew ts kept.of_kinds p q.env c (new_place p + length p.new) whole q.last × TypedEach c n os
  news =
      news_run ts kept.of_kinds p q.env c (new_ends p) (new_place p) n p.new (kinds_matched ks p) olds.new whole b q.last os shown_new.2 q.made
      (omega (arith, olds_grow.longer, numbers.long, length-map p.old (pattern_op_step ks))) (omega arith) (omega arith) f.news m.named
      matched_kinds matched_bits types (extended_later a n (new_place p) whole) olds_show has_numbers

  result_there : slice_get whole p.result ≡ Some (c v)
  result_there =
      let r = new_place_of ts kept.of_kinds p q.env c (new_ends p) p.result (omega arith) f.result in
      news.1 p.result v r.0 (omega (arith, r.1)) (standing_stands p.result v q.last q.result)

  goes : Goes t verified n p x a done os v
  goes = record {
    after = c;
    agrees = agree;
    fits = news.0;
    typed = news.2;
    refined = subst (λ o. refines (a (Result x 0)) o ≡ true) (same_Some _ _ (sym shown_new.3 ∙ result_there)) shown_new.4;
  }

pub plans_go : PlansGo
plans_go t verified n p x a done proper computes found constants always made v plan =
    goes t verified n p x a done (wellformed_parts p proper.wellformed) (made_parts p proper.buildable) proper.named computes.below (found_fit a done t computes.fits) (types_found a t computes.typed) found constants always made v
    (planned_there t verified n p x found.here found.types made v found.is_matched found.are_types plan)

pub checked_plans_go : CheckedPlansGo
checked_plans_go t verified n p x a done proper computes found constants most verdict ws are same made v plan =
    plans_go t verified n p x a done proper computes found constants (subst AlwaysKeeps (sym same) (verdict.0 ws are)) made v plan

-- the root is in the tree
pub root_below : (t : Operation) (verified : Header → Bool) (n : ℕ) (p : PatternModel) (x : ℕ) (a : Assignment) (done : ℕ → Bool) → IsProper p → IsBelow n t → IsFound t verified n p x a done → x < n
root_below t verified n p x a done proper below found =
    let m = made_parts p proper.buildable in
    let f = wellformed_parts p proper.wellformed in
    let matched = matched_parts t verified n p x found.here found.is_matched in
    let typed = typed_parts t verified n p found.here found.types found.are_types in
    value_below n t below (Result x 0)
    (has_type t verified (old_place p) (map PatternOp.ty p.old) found.here found.types typed.pattern_ops p.root (Result x 0) m.root (omega (arith, f.root, length-map p.old PatternOp.ty)) matched.root)
