-- A pattern that refines for all outcomes of its variables, at the kinds of a match, refines what a ready module
-- computes.
use Rattle.std.proofs.Common.{◌≡◌, ℕ, zero, suc, ◌+◌, ◌<◌, ◌^◌, refl, ap, sym, ◌∙◌, subst, List, [], ◌∷◌, length, map, Bool, true, false, true≢false, eqb, Option, Some, None, slice_get, inl, inr, arith}
use Rattle.std.specs.Prelude.{if◌then◌else◌, is_some}
use Rattle.std.specs.List.{list_all, list_any}
use Rattle.std.proofs.lemmas.Bool.{cases_lt}
use Rattle.std.proofs.lemmas.List.{length-append, length-map}
use Rattle.std.proofs.lemmas.Option.{same_Some, slice_get_within}
use Rattle.ir_types.specs.declared.bits.BitsKind.{BitsKind}
use Rattle.ir_types.specs.Bits.{width_of}
use Rattle.ir_types.specs.Terms.{TypeTerm}
use Rattle.ir_tree.specs.declared.value.Value.{Value}
use Rattle.ir_tree.specs.declared.value.Value.TheVariants.{Result}
use Rattle.ir_tree.specs.Meaning.{Operation}
use Rattle.ir_tree_laws.specs.Values.{type_of_value}
use Rattle.ir_tree_laws.proofs.Reasoned.{some_there}
use Rattle.ir_event.specs.Modules.{Module}
use Rattle.dialects_int.specs.Folds.{Known, kind_of, rule_of}
use Rattle.patterns_laws.proofs.KnownFolds.{given_at, given_some}
use Rattle.patterns_base.specs.Looks.{is_verified}
use Rattle.user_patterns_check.specs.Checks.{new_refines, old_ran, old_refined, refines, shown}
use Rattle.user_patterns_check.specs.Contents.{Content}
use Rattle.user_patterns_check.specs.Outcomes.{Outcome, given, run}
use Rattle.user_patterns_check.proofs.Following.{run_after}
use Rattle.user_patterns_claims.specs.Outcomes.{AreOutcomes, IsNumberIf, IsOutcome, old_outcomes}
use Rattle.user_patterns_data.specs.declared.pattern.Expression.{Expression}
use Rattle.user_patterns_data.specs.Fitting.{content_with, extra_step, kind_at, number_step, pattern_op_step}
use Rattle.user_patterns_data.specs.Matching.{Header, BoundValues, defining_op_head, known, binding_at}
use Rattle.user_patterns_data.specs.Planning.{extra_place, bound_type, known_at, new_place, old_place, outcomes, planned}
use Rattle.user_patterns_data.specs.Shapes.{PatternModel}
use Rattle.user_patterns_data.specs.WellFormed.{new_begins, new_ends, old_begins}
use Rattle.user_patterns_apply.specs.Own.{UserPatternsAreAccepted}
use Rattle.patterns_refinement.specs.Meaning.{Assignment, IsOfType, Obeys, is_arithmetic, makes}
use Rattle.patterns_refinement.specs.Applied.{IsProper, extra_kind, kinds_after, kinds_given, kinds_matched}
use Rattle.patterns_refinement.specs.Better.{IsSure, kind_in, may_overflow}
use Rattle.user_patterns_claims.specs.Quotients.{makes_no_quotient}
use Rattle.patterns_refinement.specs.Keeping.{Computing, IsReady, done_after, is_there}
use Rattle.patterns_refinement.specs.Passing.{FoundAt, is_kinded_at}
use Rattle.patterns_refinement.specs.ForOutcomes.{KeepsForOutcomes, OutcomesKeepThere}
use Rattle.patterns_refinement.proofs.Beginning.{AreKnown, bits_below, constants_are, extra_shows, planner_alike}
use Rattle.patterns_refinement.proofs.Forms.{defining_op_of, kind_is, rule_for}
use Rattle.patterns_refinement.proofs.Giving.{Making}
use Rattle.patterns_refinement.proofs.Going.{wellformed_parts, made_parts, matched_parts, typed_parts}
use Rattle.patterns_refinement.proofs.Improved.{new_ready}
use Rattle.patterns_refinement.proofs.Makings.{all_bare, all_numbers}
use Rattle.patterns_refinement.proofs.Monotone.{itself, same_refined, through}
use Rattle.patterns_refinement.proofs.News.{HasNumbers, ShowsNew, extended, extended_agrees, extended_later, new_place_of, news_run}
use Rattle.patterns_refinement.proofs.Numbers.{Alike, given_speak, number_fixed, run_alike}
use Rattle.patterns_refinement.proofs.OfBits.{AllOfBits, IsOfBits, run_bits}
use Rattle.patterns_refinement.proofs.OfKinds.{IsKind, OfKinds, extras_run, numbers_run}
use Rattle.patterns_refinement.proofs.OldOutcomes.{OldsRefine, Raised, ShownAt, ShowsBetter, olds_refine}
use Rattle.patterns_refinement.proofs.PassingKept.{constant_is, fed, its_made, its_unflagged, making_improves, making_still, passing_ready, simple, root_within, site_of, there_all, value_there}
use Rattle.patterns_refinement.proofs.PassingMade.{old_below, news_typed}
use Rattle.patterns_refinement.proofs.PassingMatched.{Here, defining_op_kinded, defining_op_kinds}
use Rattle.patterns_refinement.proofs.Settling.{typed_bits}
use Rattle.patterns_refinement.proofs.BoundValues.{AllTyped, Stands, standing_stands, stands_standing}
use Rattle.patterns_refinement.proofs.Steps.{Grows, run_grows}
use Rattle.patterns_refinement.proofs.Trees.{each_found, found_fit, types_found}

-- ---- a side that refines has a result
record Refines (old : Outcome) (i : ℕ) (o : Option (List Outcome)) : Type 0 where
  pub env : List Outcome
  pub outcome : Outcome
  pub ran : o ≡ Some env
  pub at : slice_get env i ≡ Some outcome
  pub better : refines old outcome ≡ true

refined_parts : (old : Outcome) (i : ℕ) (o : Option (List Outcome)) → new_refines old (shown i o) ≡ true → Refines old i o
refined_parts old i None e = absurd (true≢false (sym e))
refined_parts old i (Some env) e = go (slice_get env i) refl e
  where
    go : (r : Option Outcome) → slice_get env i ≡ r → new_refines old r ≡ true → Refines old i (Some env)
    go None s e = absurd (true≢false (sym e))
    go (Some y) s e = record { env = env; outcome = y; ran = refl; at = s; better = e }

-- a constant's outcome is a number
number_if : (c : Bool) (o : Outcome) → (c ≡ true → is_some o ≡ true) → IsNumberIf c o
number_if true None h = absurd (true≢false (sym (h refl)))
number_if true (Some y) h = tt
number_if false o h = tt

-- ---- the outcomes of the variables
module _ (a : Assignment) (b : BoundValues Value) where
  abbrev outcome_of : ℕ → Outcome
  outcome_of k = given (binding_at k b) a

  abbrev pub firsts : ℕ → List ℕ → List Outcome
  firsts k [] = []
  firsts k (ty ∷ tys) = given (binding_at k b) a ∷ firsts (k + 1) tys

  firsts_long : (k : ℕ) (tys : List ℕ) → length (firsts k tys) ≡ length tys
  firsts_long k [] = refl
  firsts_long k (ty ∷ tys) = ap suc (firsts_long (k + 1) tys)

  firsts_at : (k : ℕ) (tys : List ℕ) (i : ℕ) → i < length tys → slice_get (firsts k tys) i ≡ Some (outcome_of (k + i))
  firsts_at k [] i l = absurd (omega (arith, l))
  firsts_at k (ty ∷ tys) zero l = ap (λ j. Some (outcome_of j)) (same k)
    where
      same : (k : ℕ) → k ≡ k + 0
      same k = omega arith
  firsts_at k (ty ∷ tys) (suc i) l = firsts_at (k + 1) tys i (omega (arith, l)) ∙ ap (λ j. Some (outcome_of j)) (same k i)
    where
      same : (k i : ℕ) → (k + 1) + i ≡ k + suc i
      same k i = omega arith

module _ (m : Module) (p : PatternModel) (x : ℕ) (proper : IsProper p) (ready : IsReady m) (os : List Operation) (value : Value)
    (plan : planned m.tree (is_verified m.tree) m.next p x ≡ Some (os, value)) (q : Here m p x proper ready os value plan) (kinded : is_kinded_at (map bound_type q.types) p ≡ true)
    (a : Assignment) (done : ℕ → Bool) (computing : Computing a done m.tree) (d : done x ≡ true) where
  abbrev t : Operation
  t = m.tree

  abbrev verified : Header → Bool
  verified = is_verified m.tree

  abbrev ks : List BitsKind
  ks = map bound_type q.types

  abbrev steps : Content
  steps = content_with (map bound_type q.types) p

  abbrev variables : List Outcome
  variables = firsts a q.here 0 p.values

  -- ---- operations that define bound values, without their flags
  raised : (i : ℕ) (v : Value) (h : Header) (f : Expression) → Stands i v q.here → defining_op_head m.tree (is_verified m.tree) v ≡ Some h → rule_of h.name ≡ Some (rule_for f) → Raised m.tree a v h
  raised i v h f s e r =
      let g = defining_op_of t verified v h e in
      let k = defining_op_kinds m ready v h e f r (q.bound_kinds i v s) in
      let is : done g.id ≡ true = ap (is_there done) (sym g.value) ∙ there_all m p x proper ready os value plan q kinded a done computing d i v s in
      let n = each_found (IsSure a done) g.id t computing.sure g.here g.found in
      let sure = subst (λ (h : Header). is_arithmetic h ≡ true → may_overflow h (map a h.operands) ≡ false) g.heads (n.0 (ap done n.1 ∙ is)) k.arithmetic in
      elim (subst (λ (h : Header). is_arithmetic h ≡ true → Obeys a g.id h) g.heads (found_fit a done t computing.fits g.id g.here g.found is) k.arithmetic) [
        | inl z ↦ record { kinded = defining_op_kinded m ready v h e; sure = sure; outcome = a (Result g.id 0); is_made = z.0; better = same_refined (a v) (a (Result g.id 0)) (ap a g.value) }
        | inr z ↦
            let w = some_there (makes h (map a h.operands)) z.1 in
            record { kinded = defining_op_kinded m ready v h e; sure = sure; outcome = w.0; is_made = w.1; better = ap (λ u. refines u w.0) (ap a g.value ∙ z.2) }
      ]

  knows : AreKnown m.tree (is_verified m.tree) a q.here q.types
  knows k v y s e = constant_is m p x proper ready os value plan q kinded a done computing d k v y s e

  -- ---- the variables
  variables_long : length variables ≡ length p.values
  variables_long = firsts_long a q.here 0 p.values

  variable_at : (j : ℕ) (v : Value) → j < length p.values → Stands j v q.here → slice_get (firsts a q.here 0 p.values) j ≡ Some (a v)
  variable_at j v l s =
      firsts_at a q.here 0 p.values j l ∙ ap (λ z. Some (given (binding_at z q.here) a)) (no_more j) ∙ ap (λ o. Some (given o a)) (stands_standing j v q.here s)
    where
      no_more : (k : ℕ) → 0 + k ≡ k
      no_more k = omega arith

  -- a constant has a number
  constant_number : (k : ℕ) → list_any (eqb k) p.constants ≡ true → is_some (given (binding_at k q.here) a) ≡ true
  constant_number k c =
      let y = some_there (known_at t verified m.next p q.here k) (constants_are t verified a q.here q.types m.next p p.constants q.parts.constants k c) in
      let g = given_some (binding_at k q.here) (known t verified) y.0 y.1 in
      ap (λ o. is_some (given o a)) g.1 ∙ ap is_some (knows k g.0 y.0 (standing_stands k g.0 q.here g.1) g.2)

  one_outcome : (term : TypeTerm) (k : BitsKind) (o : Outcome) → IsOfType term o → ((y : Known) → kind_of term ≡ Some y.0 → k ≡ y.0) → IsOutcome k o
  one_outcome term k None e same = tt
  one_outcome term k (Some y) e same = let s = same y e.0 in (sym s, subst (λ k. y.1 < 2 ^ width_of k) (sym s) (bits_below y.0 y.1 e.1))

  are_outcomes : (k : ℕ) (tys : List ℕ) → AllTyped m.tree (is_verified m.tree) k tys q.here q.types → AreOutcomes p (map bound_type q.types) k tys (firsts a q.here k tys)
  are_outcomes k [] h = tt
  are_outcomes k (ty ∷ tys) h =
      let w = h.0 in
      let is : given (binding_at k q.here) a ≡ a w.value = ap (λ o. given o a) (stands_standing k w.value q.here w.stands) in (
        subst (IsOutcome (kind_at ks ty)) (sym is)
            (one_outcome w.term (kind_at ks ty) (a w.value) (types_found a t computing.typed w.value w.term w.of_value) (λ y e. kind_is q.types ty w.term y.0 w.type_stands e)),
        number_if (list_any (eqb k) p.constants) (given (binding_at k q.here) a) (λ c. constant_number k c),
        are_outcomes (k + 1) tys h.1,
      )

  -- ---- the computed numbers
  record Numbers : Type 0 where
    pub env : List Outcome
    pub ran : run steps.given variables ≡ Some env
    pub alike : Alike p q.parts.env env
    pub long : length env ≡ old_place p
    pub stays : (k : ℕ) (o : Outcome) → slice_get variables k ≡ Some o → slice_get env k ≡ Some o

  numbers : Numbers
  numbers =
      let f = wellformed_parts p proper.wellformed in
      let alike = planner_alike t verified a q.here q.types m.next p knows f.constants q.parts.constants variables variables_long variable_at in
      let r = run_alike p steps.given (outcomes t verified m.next p 0 p.values q.here) variables q.parts.env (given_speak p ks (old_begins p) f.extra f.numbers) alike q.parts.numbers in
      let g = run_grows steps.given variables r.0 r.1 in
      record {
        env = r.0;
        ran = r.1;
        alike = r.2;
        long = omega (arith, g.longer, variables_long, length-append (map (extra_step ks) p.extra) (map (number_step ks) p.given), length-map p.extra (extra_step ks), length-map p.given (number_step ks));
        stays = g.stays;
      }

  -- ---- kinds and bits of bound values
  bound_kind : (j : ℕ) (v : Value) → Stands j v q.here → (k : BitsKind) → kind_in m.tree v ≡ Some k → IsKind k (a v)
  bound_kind j v s k e y i =
      let g = given_some (type_of_value v t) kind_of k e in
      same_Some _ _ (sym (subst (IsOfType g.0) i (types_found a t computing.typed v g.0 g.1)).0 ∙ g.2)

  bound_bits : (j : ℕ) (v : Value) → Stands j v q.here → IsOfBits (a v)
  bound_bits j v s =
      let k = some_there (kind_in t v) (q.bound_kinds j v s) in
      let g = given_some (type_of_value v t) kind_of k.0 k.1 in
      typed_bits g.0 (a v) (types_found a t computing.typed v g.0 g.1)

  abbrev Shows : List Outcome → ℕ → Value → Type 0
  Shows env j v = ShownAt m.tree (is_verified m.tree) a q.here q.types p q.value_types raised env j v

  shown_same : (j : ℕ) (v : Value) → Stands j v q.here → slice_get numbers.env j ≡ Some (a v) → Shows numbers.env j v
  shown_same j v s e = record { outcome = a v; at = e; better = itself (a v); of = bound_kind j v s; bits = bound_bits j v s }

  numbers_show : ShowsBetter m.tree (is_verified m.tree) a q.here q.types p q.value_types raised (old_place p) numbers.env
  numbers_show j v o high s = elim o [
    | inl l ↦ elim (cases_lt j (length p.values)) [
      | inl i ↦ shown_same j v s (numbers.stays j (a v) (variable_at j v i s))
      | inr i ↦ shown_same j v s (sym (numbers.alike.same j (inr i)) ∙ extra_shows t verified a q.here q.types m.next p knows q.parts.env (extra_place p) p.extra q.parts.extra j v i (omega (arith, l)) s)
    ]
    | inr l ↦ absurd (omega (arith, l, high))
  ]

  -- ---- the matched operations
  olds : OldsRefine m.tree (is_verified m.tree) a q.here q.types p q.value_types raised (old_place p) p.old numbers.env
  olds =
      let f = wellformed_parts p proper.wellformed in
      olds_refine t verified a q.here q.types p q.value_types raised (new_begins p) (old_place p) p.old numbers.env numbers.long (omega arith) (omega arith) f.olds proper.named
      (matched_parts t verified m.next p x q.here q.is_matched).pattern_ops (typed_parts t verified m.next p q.here q.types q.are_types).pattern_ops numbers_show

  olds_grow : Grows (map (pattern_op_step ks) p.old) numbers.env olds.new
  olds_grow = run_grows (map (pattern_op_step ks) p.old) numbers.env olds.new olds.ran

  olds_ran : old_outcomes steps variables ≡ Some olds.new
  olds_ran =
      ap (λ c. if c then given (run steps.given variables) (run steps.old) else None) q.parts.widths
      ∙ given_at (run steps.given variables) numbers.env (run steps.old) (Some olds.new) numbers.ran olds.ran

  root_shown : Shows olds.new p.root (Result x 0)
  root_shown =
      let f = wellformed_parts p proper.wellformed in
      let k = made_parts p proper.buildable in
      olds.shows p.root (Result x 0) (inr (omega (arith, k.root))) (omega (arith, f.root)) (matched_parts t verified m.next p x q.here q.is_matched).root

  -- ---- kinds and bits of the environment
  record Starts (i : ℕ) (y : Known) : Type 0 where
    pub its_value : Value
    pub within : i < length p.values
    pub stands : Stands i its_value q.here
    pub is : a its_value ≡ Some y

  starts : (i : ℕ) (y : Known) → slice_get variables i ≡ Some (Some y) → Starts i y
  starts i y e =
      let l = slice_get_within variables i (Some y) e in
      let n = variables_long in
      let within : i < length p.values = omega (arith, l, n) in
      let at : given (binding_at (0 + i) q.here) a ≡ Some y = same_Some _ _ (sym (firsts_at a q.here 0 p.values i within) ∙ e) in
      let g = given_some (binding_at (0 + i) q.here) a y at in
      record { its_value = g.0; within = within; stands = subst (λ z. Stands z g.0 q.here) (no_more i) (standing_stands (0 + i) g.0 q.here g.1); is = g.2 }
    where
      no_more : (k : ℕ) → 0 + k ≡ k
      no_more k = omega arith

  started : OfKinds (map (kind_at ks) p.values) variables
  started = record {
    long = length-map p.values (kind_at ks) ∙ sym variables_long;
    are = λ i y e.
        let w = starts i y e in
        let v = q.variables i w.its_value w.within w.stands in
        same_Some _ _ (sym (subst (IsOfType v.term) w.is (types_found a t computing.typed w.its_value v.term v.of_value)).0 ∙ v.of);
  }

  started_bits : AllOfBits variables
  started_bits i y e = let w = starts i y e in bound_bits i w.its_value w.stands y w.is

  numbered : OfKinds (kinds_given ks p) numbers.env
  numbered =
      let g = given_some (run (map (extra_step ks) p.extra) variables) (run (map (number_step ks) p.given)) numbers.env (sym (run_after (map (extra_step ks) p.extra) (map (number_step ks) p.given) variables) ∙ numbers.ran) in
      numbers_run ks p.given (kinds_after (extra_kind ks) p.extra (map (kind_at ks) p.values)) g.0 numbers.env (extras_run ks p.extra (map (kind_at ks) p.values) variables g.0 started g.1) g.2

  matched_kinds : OfKinds (kinds_matched ks p) olds.new
  matched_kinds = olds.of_kinds (kinds_given ks p) numbered

  matched_bits : AllOfBits olds.new
  matched_bits = run_bits (map (pattern_op_step ks) p.old) numbers.env olds.new (run_bits steps.given variables numbers.env started_bits numbers.ran) olds.ran

  has_numbers : HasNumbers q.types q.value_types p q.parts.env (λ v. None) olds.new
  has_numbers i y fixed s = olds_grow.stays i (Some y) (sym (numbers.alike.same i (number_fixed p (old_begins p) i fixed)) ∙ s)

  -- ---- the new operations
  module _ (keeps : KeepsForOutcomes p (map bound_type q.types)) (none : list_all makes_no_quotient p.new ≡ true) where
    new_side : Refines root_shown.outcome p.result (run steps.new olds.new)
    new_side =
        let r = root_shown in
        let always : old_ran steps (old_outcomes steps variables) ≡ true = keeps variables (are_outcomes 0 p.values (typed_parts t verified m.next p q.here q.types q.are_types).variables) in
        let kept : old_refined steps olds.new (slice_get olds.new p.root) ≡ true = sym (ap (old_ran steps) olds_ran) ∙ always in
        refined_parts r.outcome p.result (run steps.new olds.new) (sym (ap (old_refined steps olds.new) r.at) ∙ kept)

    pub making_outcomes : Making a m.next x done os value
    making_outcomes =
        let f = wellformed_parts p proper.wellformed in
        let whole = new_side.env in
        let c = extended a m.next (new_place p) whole in
        let agrees = extended_agrees a m.next (new_place p) whole in
        let shows : ShowsNew q.types q.value_types p q.parts.env c (new_place p) olds.new q.here =
        (λ j v o l s. elim o [
          | inl i ↦
              olds_grow.stays j (a v) (numbers.stays j (a v) (variable_at j v i s))
              ∙ ap (λ z. Some z) (sym (agrees v (old_below m p x proper ready os value plan q kinded j v (record { within = i; stands = s }))))
          | inr i ↦ absurd (omega (arith, i, l))
        ]) in
        let long : length olds.new ≡ new_place p = omega (arith, olds_grow.longer, numbers.long, length-map p.old (pattern_op_step ks)) in
        let n =
        news_run q.types q.value_types p q.parts.env c (new_ends p) (new_place p) m.next p.new (kinds_matched ks p) olds.new whole q.here q.parts.last os new_side.ran q.parts.made long (omega arith) (omega arith) f.news (made_parts p proper.buildable).named
        matched_kinds matched_bits (news_typed ks (kinds_matched ks p) p.new kinded) (extended_later a m.next (new_place p) whole) shows has_numbers in
        let at = new_place_of q.types q.value_types p q.parts.env c (new_ends p) p.result (omega arith) f.result in
        let result : slice_get whole p.result ≡ Some (c value) = n.1 p.result value at.0 (omega (arith, at.1)) (standing_stands p.result value q.parts.last q.parts.result) in
        let better : refines (a (Result x 0)) (c value) ≡ true =
        through (a (Result x 0)) root_shown.outcome (c value) root_shown.better (subst (λ o. refines root_shown.outcome o ≡ true) (same_Some _ _ (sym new_side.at ∙ result)) new_side.better) in
        let made = its_made m p x proper ready os value plan q kinded in
        record {
          outcomes = c;
          agrees = agrees;
          bare = all_bare _ os _ made;
          typed = n.2;
          ready = new_ready c (done_after m.next x done) m.next os n.0 (simple m p x proper ready os value plan q kinded none) (its_unflagged m p x proper ready os value plan q kinded);
          fed = fed m p x proper ready os value plan q kinded a done computing;
          numbers = all_numbers _ m.next os _ made;
          better = λ i. ap (λ o. refines o (c value)) (agrees (Result x 0) (root_within m p x proper ready os value plan q kinded)) ∙ better;
          there = value_there m p x proper ready os value plan q kinded a done computing;
        }

-- ---- executed or not
making_at : (m : Module) (p : PatternModel) (x : ℕ) (proper : IsProper p) (ready : IsReady m) (os : List Operation) (value : Value)
    (plan : planned m.tree (is_verified m.tree) m.next p x ≡ Some (os, value)) (q : Here m p x proper ready os value plan) (kinded : is_kinded_at (map bound_type q.types) p ≡ true)
    → KeepsForOutcomes p (map bound_type q.types) → list_all makes_no_quotient p.new ≡ true → (a : Assignment) (done : ℕ → Bool) → Computing a done m.tree → Making a m.next x done os value
making_at m p x proper ready os value plan q kinded keeps none a done computing = go (done x) refl
  where
    go : (b : Bool) → done x ≡ b → Making a m.next x done os value
    go true e = making_outcomes m p x proper ready os value plan q kinded a done computing e keeps none
    go false e = making_still m p x proper ready os value plan q kinded a done computing e

pub outcomes_keep_there : UserPatternsAreAccepted → OutcomesKeepThere
outcomes_keep_there accepted p m n x none proper ready e keeps =
    let s = site_of accepted p proper m n x ready e in
    let at : FoundAt p m x = record { here = s.here.here; is_matched = s.here.is_matched; types = s.here.types; are_types = s.here.are_types } in
    let k = keeps at in
    let r = s.applied in (
      passing_ready accepted p proper m n x ready e s k.0,
      (λ a done c. making_improves accepted p proper m n x ready e s k.0 a done c (making_at m p x proper ready r.made r.value r.plan s.here k.0 k.1 none a done c)),
    )
