-- The steps of the matched operations, which have no flags, compute outcomes that refine those of the module.
use Rattle.std.proofs.Common.{◌≡◌, ℕ, ◌+◌, ◌-◌, ◌<◌, ◌≤◌, refl, ap, sym, ◌∙◌, subst, List, [], ◌∷◌, ◌++◌, length, map, Bool, true, false, Option, Some, slice_get, ◌⊎◌, inl, inr, arith}
use Rattle.std.specs.Prelude.{codes, nat_lt}
use Rattle.std.specs.List.{list_all}
use Rattle.std.proofs.lemmas.Bool.{and_parts, cases_eq, ltb-true, or_cases}
use Rattle.std.proofs.lemmas.List.{length_push}
use Rattle.std.proofs.lemmas.Option.{same_Some}
use Rattle.ir_types.specs.declared.bits.BitsKind.{BitsKind}
use Rattle.ir_types.specs.Terms.{TypeTerm}
use Rattle.ir_tree.specs.declared.value.Value.{Value}
use Rattle.ir_tree.specs.Meaning.{Operation}
use Rattle.ir_tree_laws.specs.Values.{type_of_value}
use Rattle.ir_tree_laws.proofs.Reasoned.{some_there}
use Rattle.dialects_int.specs.Folds.{requested, kind_of, property_of, rule_of}
use Rattle.user_patterns_check.specs.Checks.{refines}
use Rattle.user_patterns_check.specs.Outcomes.{Outcome, compare_outcome, given, pair_outcome, resize_outcome, run, select_outcome, step_of}
use Rattle.patterns_laws.proofs.KnownFolds.{given_at}
use Rattle.user_patterns_data.specs.declared.pattern.Expression.{Expression}
use Rattle.user_patterns_data.specs.declared.pattern.Expression.TheVariants as form
use Rattle.user_patterns_data.specs.declared.pattern.PatternOp.{PatternOp}
use Rattle.user_patterns_data.specs.Fitting.{form_step, kind_at, pattern_op_step}
use Rattle.user_patterns_data.specs.Names.{name_of, operands_of}
use Rattle.user_patterns_data.specs.Matching.{Header, BoundValues, defining_op_head}
use Rattle.user_patterns_data.specs.Planning.{bound_type}
use Rattle.user_patterns_data.specs.Shapes.{PatternModel}
use Rattle.user_patterns_data.specs.WellFormed.{form_is_valid, is_old, is_type, is_within, old_begins, old_is_valid, olds_are_valid}
use Rattle.user_patterns_build.specs.CanBuild.{has_name}
use Rattle.patterns_refinement.specs.Meaning.{Assignment, makes, makes_by, of_one, of_three, of_two, result_kind}
use Rattle.patterns_refinement.specs.Applied.{AreOfKinds, kinds_after, pattern_op_kind}
use Rattle.patterns_refinement.specs.Better.{AllBetter, AreOf, is_kinded, kind_in, may_overflow}
use Rattle.patterns_refinement.proofs.Forms.{Asks, defining_op_of, defining_op_type, form_asks, form_rule, kind_is, makes_is, named_is, rule_for}
use Rattle.patterns_refinement.proofs.MadeOf.{HaveBits, made_of}
use Rattle.patterns_refinement.proofs.Monotone.{monotone, through}
use Rattle.patterns_refinement.proofs.Numbers.{within_parts}
use Rattle.patterns_refinement.proofs.OfBits.{IsOfBits}
use Rattle.patterns_refinement.proofs.OfKinds.{IsKind, OfKinds, push_kinds}
use Rattle.patterns_refinement.proofs.Olds.{AllAre, form_places}
use Rattle.patterns_refinement.proofs.BoundValues.{AllHold, AllTyped, Holds, IsTyped, Stands, ValuesStand, one_stands, stands_standing}
use Rattle.patterns_refinement.proofs.Steps.{push_last, push_other}

-- ---- the environment has outcomes at places
abbrev pub AllPlaced : List Outcome → List ℕ → List Outcome → Type 0
AllPlaced env [] [] = Unit {0}
AllPlaced env [] (y ∷ ys) = ⊥
AllPlaced env (k ∷ ks) [] = ⊥
AllPlaced env (k ∷ ks) (y ∷ ys) = (slice_get env k ≡ Some y) × AllPlaced env ks ys

module _ (env : List Outcome) where
  one_placed : (f : Outcome → Option Outcome) (i : ℕ) (ys : List Outcome) → AllPlaced env (i ∷ []) ys → of_one f ys ≡ given (slice_get env i) f
  one_placed f i [] s = absurd s
  one_placed f i (y ∷ []) s = sym (given_at (slice_get env i) y f (f y) s.0 refl)
  one_placed f i (y ∷ z ∷ ys) s = absurd s.1

  two_placed : (f : Outcome → Outcome → Option Outcome) (i j : ℕ) (ys : List Outcome) → AllPlaced env (i ∷ j ∷ []) ys → of_two f ys ≡ given (slice_get env i) (λ x. given (slice_get env j) (λ y. f x y))
  two_placed f i j [] s = absurd s
  two_placed f i j (x ∷ []) s = absurd s.1
  two_placed f i j (x ∷ y ∷ []) s =
      sym (given_at (slice_get env i) x (λ x. given (slice_get env j) (λ y. f x y)) (f x y) s.0 (given_at (slice_get env j) y (λ y. f x y) (f x y) s.1.0 refl))
  two_placed f i j (x ∷ y ∷ z ∷ ys) s = absurd s.1.1

  three_placed : (f : Outcome → Outcome → Outcome → Option Outcome) (c i j : ℕ) (ys : List Outcome) → AllPlaced env (c ∷ i ∷ j ∷ []) ys
      → of_three f ys ≡ given (slice_get env c) (λ b. given (slice_get env i) (λ x. given (slice_get env j) (λ y. f b x y)))
  three_placed f c i j [] s = absurd s
  three_placed f c i j (u ∷ []) s = absurd s.1
  three_placed f c i j (u ∷ x ∷ []) s = absurd s.1.1
  three_placed f c i j (u ∷ x ∷ y ∷ []) s =
      sym (given_at (slice_get env c) u (λ b. given (slice_get env i) (λ x. given (slice_get env j) (λ y. f b x y))) (f u x y) s.0
      (given_at (slice_get env i) x (λ x. given (slice_get env j) (λ y. f u x y)) (f u x y) s.1.0
      (given_at (slice_get env j) y (λ y. f u x y) (f u x y) s.1.1.0 refl)))
  three_placed f c i j (u ∷ x ∷ y ∷ z ∷ ys) s = absurd s.1.1.1

  -- an operation computes the outcome of its step from these outcomes
  by_places : (h : Header) (k : BitsKind) (ys : List Outcome) (f : Expression) → Asks f h.properties → AllPlaced env (operands_of f) ys → makes_by (rule_for f) h k ys ≡ step_of (form_step k f) env
  by_places h k ys (form.Binary o i j) q s = two_placed (pair_outcome o) i j ys s
  by_places h k ys (form.Compare p i j) q s =
      given_at (requested (property_of (codes "predicate") h.properties)) p (λ p. of_two (compare_outcome p) ys) (of_two (compare_outcome p) ys) q refl
      ∙ two_placed (compare_outcome p) i j ys s
  by_places h k ys (form.Select c i j) q s = three_placed select_outcome c i j ys s
  by_places h k ys (form.IntegerCast c i) q s = one_placed (resize_outcome c k) i ys s
  by_places h k ys (form.IndexCast c i) q s = one_placed (resize_outcome c k) i ys s

-- what is known of the defining operation of a bound value, if that is executed: without its flags it is defined, and
-- its outcome is the value's or a refinement
pub record Raised (t : Operation) (a : Assignment) (v : Value) (h : Header) : Type 0 where
  pub kinded : is_kinded t h ≡ true
  pub sure : may_overflow h (map a h.operands) ≡ false
  pub outcome : Outcome
  pub is_made : makes h (map a h.operands) ≡ Some outcome
  pub better : refines (a v) outcome ≡ true

module _ (t : Operation) (verified : Header → Bool) (a : Assignment) (b : BoundValues Value) (ts : BoundValues TypeTerm) (p : PatternModel) (value_types : AreOfKinds ts)
    (raised : (i : ℕ) (v : Value) (h : Header) (f : Expression) → Stands i v b → defining_op_head t verified v ≡ Some h → rule_of h.name ≡ Some (rule_for f) → Raised t a v h) where
  -- the place of a variable, an extra constant or a matched operation
  abbrev pub IsOldPlace : ℕ → Type 0
  IsOldPlace j = (j < length p.values + length p.extra) ⊎ (old_begins p ≤ j)

  -- the environment has a refinement of the value's outcome at a place
  pub record ShownAt (env : List Outcome) (j : ℕ) (v : Value) : Type 0 where
    pub outcome : Outcome
    pub at : slice_get env j ≡ Some outcome
    pub better : refines (a v) outcome ≡ true
    pub of : (k : BitsKind) → kind_in t v ≡ Some k → IsKind k outcome
    pub bits : IsOfBits outcome

  abbrev pub ShowsBetter : ℕ → List Outcome → Type 0
  ShowsBetter k env = (j : ℕ) (v : Value) → IsOldPlace j → j < k → Stands j v b → ShownAt env j v

  pub record OldsRefine (k : ℕ) (ps : List PatternOp) (env : List Outcome) : Type 0 where
    pub new : List Outcome
    pub ran : run (map (pattern_op_step (map bound_type ts)) ps) env ≡ Some new
    pub shows : ShowsBetter (k + length ps) new
    pub of_kinds : (es : List BitsKind) → OfKinds es env → OfKinds (kinds_after (pattern_op_kind (map bound_type ts)) ps es) new

  old_shown : (k : ℕ) (env : List Outcome) → old_begins p ≤ k → ShowsBetter k env → (i : ℕ) (v : Value) → is_old p k i ≡ true → Stands i v b → ShownAt env i v
  old_shown k env low shows i v e s = elim (or_cases (nat_lt i (length p.values + length p.extra)) (is_within (old_begins p) k i) e) [
    | inl h ↦ let l = ltb-true i (length p.values + length p.extra) h in shows i v (inl l) (omega (arith, l, low)) s
    | inr h ↦ let l = within_parts (old_begins p) k i h in shows i v (inr l.0) l.1 s
  ]

  -- the outcomes of an operation's operands
  record Operands (env : List Outcome) (js : List ℕ) (vs : List Value) : Type 0 where
    pub outcomes : List Outcome
    pub placed : AllPlaced env js outcomes
    pub better : AllBetter (map a vs) outcomes
    pub of : AreOf (map (kind_in t) vs) outcomes
    pub bits : HaveBits (map (kind_in t) vs) outcomes

  operands_shown : (k : ℕ) (env : List Outcome) → old_begins p ≤ k → ShowsBetter k env → (js : List ℕ) (vs : List Value) → AllAre (is_old p k) js → ValuesStand js vs b → Operands env js vs
  operands_shown k env low shows [] [] h s = record { outcomes = []; placed = tt; better = tt; of = tt; bits = tt }
  operands_shown k env low shows [] (v ∷ vs) h s = absurd s
  operands_shown k env low shows (j ∷ js) [] h s = absurd s
  operands_shown k env low shows (j ∷ js) (v ∷ vs) h s =
      let one = old_shown k env low shows j v h.0 s.0 in
      let more = operands_shown k env low shows js vs h.1 s.1 in
      record {
        outcomes = one.outcome ∷ more.outcomes;
        placed = (one.at, more.placed);
        better = (one.better, more.better);
        of = ((λ k x i e. one.of k i x e), more.of);
        bits = ((λ k i. one.bits), more.bits);
      }

  -- the step of a pattern op computes a refinement of the outcome of the value at its place
  record Given (k : ℕ) (o : PatternOp) (env : List Outcome) (v : Value) : Type 0 where
    pub outcome : Outcome
    pub is : step_of (pattern_op_step (map bound_type ts) o) env ≡ Some outcome
    pub better : refines (a v) outcome ≡ true
    pub of : IsKind (kind_at (map bound_type ts) o.ty) outcome
    pub in_tree : (k : BitsKind) → kind_in t v ≡ Some k → IsKind k outcome
    pub bits : IsOfBits outcome

  pattern_op_given : (k : ℕ) (o : PatternOp) (env : List Outcome) → old_begins p ≤ k → old_is_valid p k o ≡ true → has_name o.form ≡ true → (r : Holds t verified k o b) → IsTyped t verified k o.ty b ts → ShowsBetter k env → Given k o env r.value
  pattern_op_given k o env low st named r q shows =
      let places = form_places p (is_old p k) o.form (and_parts (is_type p o.ty) (form_is_valid p (is_old p k) o.form) st).1 in
      let same : r.value ≡ q.value = one_stands k r.value q.value b r.stands q.stands in
      let of_value : type_of_value r.value t ≡ Some q.term = ap (λ v. type_of_value v t) same ∙ q.of_value in
      let first = defining_op_type t verified r.value r.header q.term (defining_op_of t verified r.value r.header r.gives) of_value in
      let k_is = some_there (kind_of q.term) (value_types o.ty q.term (stands_standing o.ty q.term ts q.type_stands)) in
      let at : kind_at (map bound_type ts) o.ty ≡ k_is.0 = kind_is ts o.ty q.term k_is.0 q.type_stands k_is.1 in
      let kind : result_kind r.header ≡ Some k_is.0 = ap (λ o. given o kind_of) first ∙ k_is.1 in
      let name = ap rule_of (named_is (name_of o.form) r.header.name r.name) ∙ form_rule o.form named in
      let w = raised k r.value r.header o.form r.stands r.gives name in
      let xs = operands_shown k env low shows (operands_of o.form) r.header.operands places r.operands in
      let g = monotone r.header (map (kind_in t) r.header.operands) (map a r.header.operands) xs.outcomes w.outcome w.kinded xs.of w.sure xs.better w.is_made in
      let made = made_of r.header (map (kind_in t) r.header.operands) xs.outcomes g.outcome w.kinded xs.of xs.bits g.is_made in
      let its : made.kind ≡ k_is.0 = same_Some _ _ (sym made.is ∙ kind) in
      let of : IsKind k_is.0 g.outcome = subst (λ k. IsKind k g.outcome) its made.of in
      record {
        outcome = g.outcome;
        is =
            ap (λ k. step_of (form_step k o.form) env) at
            ∙ sym (by_places env r.header k_is.0 xs.outcomes o.form (form_asks t verified o.form r.header.properties r.asks) xs.placed)
            ∙ sym (makes_is r.header xs.outcomes (rule_for o.form) k_is.0 name kind) ∙ g.is_made;
        better = through (a r.value) w.outcome g.outcome w.better g.better;
        of = subst (λ k. IsKind k g.outcome) (sym at) of;
        in_tree = λ k e. subst (λ k. IsKind k g.outcome) (same_Some _ _ (sym (ap (λ o. given o kind_of) of_value ∙ k_is.1) ∙ e)) of;
        bits = made.bits;
      }

  shows_more : (k : ℕ) (o : PatternOp) (env : List Outcome) (v : Value) (g : Given k o env v) → length env ≡ k → Stands k v b → ShowsBetter k env → ShowsBetter (k + 1) (env ++ (g.outcome ∷ []))
  shows_more k o env v g l at shows j w old m s = elim (cases_eq j k) [
    | inl e ↦
        let same : v ≡ w = sym (one_stands k w v b (subst (λ z. Stands z w b) e s) at) in
        subst (λ w. ShownAt (env ++ (g.outcome ∷ [])) j w) same
        (record { outcome = g.outcome; at = ap (slice_get (env ++ (g.outcome ∷ []))) (e ∙ sym l) ∙ push_last env g.outcome; better = g.better; of = g.in_tree; bits = g.bits })
    | inr n ↦
        let r = shows j w old (omega (arith, m, n)) s in
        record { outcome = r.outcome; at = push_other env g.outcome j r.outcome r.at; better = r.better; of = r.of; bits = r.bits }
  ]

  pub olds_refine : (end k : ℕ) (ps : List PatternOp) (env : List Outcome) → length env ≡ k → k + length ps ≡ end → old_begins p ≤ k → olds_are_valid p end ps ≡ true → list_all (λ (o : PatternOp). has_name o.form) ps ≡ true
      → AllHold t verified k ps b → AllTyped t verified k (map PatternOp.ty ps) b ts → ShowsBetter k env → OldsRefine k ps env
  olds_refine end k [] env l sum low st named h q shows = record { new = env; ran = refl; shows = λ j v o m s. shows j v o (omega (arith, m)) s; of_kinds = λ es g. g }
  olds_refine end k (o ∷ ps) env l sum low st named h q shows =
      let parts = and_parts (old_is_valid p (end - length (o ∷ ps)) o) (olds_are_valid p end ps) st in
      let names = and_parts (has_name o.form) (list_all (λ (o : PatternOp). has_name o.form) ps) named in
      let at : end - length (o ∷ ps) ≡ k = omega (arith, sum) in
      let g = pattern_op_given k o env low (subst (λ z. old_is_valid p z o ≡ true) at parts.0) names.0 h.0 q.0 shows in
      let ih = olds_refine end (k + 1) ps (env ++ (g.outcome ∷ [])) (length_push env g.outcome ∙ ap (λ n. n + 1) l) (omega (arith, sum)) (omega (arith, low)) parts.1 names.1 h.1 q.1 (shows_more k o env h.0.value g l h.0.stands shows) in
      record {
        new = ih.new;
        ran = given_at (step_of (pattern_op_step (map bound_type ts) o) env) g.outcome (λ x. run (map (pattern_op_step (map bound_type ts)) ps) (env ++ (x ∷ []))) (Some ih.new) g.is ih.ran;
        shows = λ j w o m s. ih.shows j w o (omega (arith, m)) s;
        of_kinds = λ es f. ih.of_kinds (es ++ (kind_at (map bound_type ts) o.ty ∷ [])) (push_kinds es env (kind_at (map bound_type ts) o.ty) g.outcome f g.of);
      }
