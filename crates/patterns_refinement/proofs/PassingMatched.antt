-- The bindings of a match of a pattern in a ready module.
use Rattle.std.proofs.Common.{◌≡◌, ℕ, zero, suc, ◌+◌, ◌-◌, ◌<◌, refl, ap, sym, ◌∙◌, subst, List, [], ◌∷◌, ◌++◌, length, map, Bool, true, false, true≢false, ◌&&◌, eqb, Option, Some, None, slice_get, ◌⊎◌, inl, inr, arith}
use Rattle.std.specs.Prelude.{codes, is_some, if◌then◌else◌, option_map}
use Rattle.std.specs.List.{list_all, list_any, range_with_len}
use Rattle.std.proofs.lemmas.Bool.{and_parts}
use Rattle.std.proofs.lemmas.List.{length-map}
use Rattle.std.proofs.lemmas.Option.{get_or_from_slice_get, none-some, same_Some, slice_get-map, slice_get_within}
use Rattle.ir_types.specs.declared.bits.BitsKind.{BitsKind}
use Rattle.ir_types.specs.declared.bits.BitsKind.TheVariants as kind
use Rattle.ir_types.specs.Bits.{is_bits, width_of}
use Rattle.ir_types.specs.Reasons.{is_width}
use Rattle.ir_types.specs.SameTypes.{same_type}
use Rattle.ir_types.specs.Terms.{TypeTerm}
use Rattle.ir_types.proofs.SameTerms.{type_is}
use Rattle.ir_tree.specs.declared.value.Value.{Value}
use Rattle.ir_tree.specs.declared.value.Value.TheVariants.{Result}
use Rattle.ir_tree.specs.Uses.{same_value}
use Rattle.ir_tree.specs.Meaning.{Operation}
use Rattle.ir_tree.proofs.Replaced.{same_value_true}
use Rattle.ir_tree_laws.specs.Members.{In}
use Rattle.ir_tree_laws.specs.Values.{has_value, type_of_value}
use Rattle.ir_tree_laws.proofs.Reasoned.{some_there}
use Rattle.ir_event.specs.Modules.{Module}
use Rattle.dialects_int.specs.declared.operations.Arithmetic.{Arithmetic}
use Rattle.dialects_int.specs.declared.operations.Cast.{Cast}
use Rattle.dialects_int.specs.declared.operations.Predicate.{Predicate}
use Rattle.dialects_int.specs.declared.operations.Rule.{Rule as How}
use Rattle.dialects_int.specs.declared.operations.Rule.TheVariants as how
use Rattle.dialects_int.specs.Folds.{Known, requested, fold_of, kind_of, property_of, rule_of, same_kind}
use Rattle.patterns_laws.specs.Words.{named}
use Rattle.patterns_laws.proofs.KnownFolds.{given_some, kind_back}
use Rattle.user_patterns_check.specs.Outcomes.{Outcome, compare_outcome, given, pair_outcome, resize_outcome, run}
use Rattle.user_patterns_check.proofs.Following.{run_after}
use Rattle.user_patterns_check.specs.Contents.{Content}
use Rattle.patterns_base.specs.Looks.{is_verified}
use Rattle.user_patterns_data.specs.declared.pattern.Expression.{Expression}
use Rattle.user_patterns_data.specs.declared.pattern.Expression.TheVariants as form
use Rattle.user_patterns_data.specs.declared.pattern.PatternType.{PatternType}
use Rattle.user_patterns_data.specs.declared.pattern.PatternType.TheVariants as sort
use Rattle.user_patterns_data.specs.declared.pattern.PatternOp.{PatternOp}
use Rattle.user_patterns_data.specs.Fitting.{content_with, extra_step, kind_at, number_step}
use Rattle.user_patterns_data.specs.Matching.{Header, BoundValues, all_bound, constraints_agree, bound, defining_op_head, header_matched, known, nothing, op_matches, ops_match, placed, binding_at, type_at, types_at, value_matched, when, written}
use Rattle.user_patterns_data.specs.Names.{name_of, operands_of}
use Rattle.user_patterns_data.specs.Planning.{bound_type, is_numeric, known_at, old_place, outcomes, places, planned, planned_by, typed}
use Rattle.user_patterns_data.specs.Shapes.{PatternModel}
use Rattle.user_patterns_build.specs.CanBuild.{has_name}
use Rattle.user_patterns_apply.proofs.FoundBuilt.{all_from, bound_from, when_is}
use Rattle.patterns_refinement.proofs.FlagsKept.{known_one, known_pair, known_resized, known_two}
use Rattle.patterns_refinement.specs.Meaning.{Assignment, makes_by, of_two, result_kind, is_arithmetic}
use Rattle.patterns_refinement.specs.Applied.{AreOfKinds, IsProper, extra_kind, kinds_after, kinds_given, matched}
use Rattle.patterns_refinement.specs.Better.{are_its_bits, is_kind, is_kinded, kind_in, narrows, takes, is_arithmetic_there}
use Rattle.patterns_refinement.specs.Keeping.{IsReady}
use Rattle.patterns_refinement.specs.Passing.{passes_poison}
use Rattle.patterns_refinement.proofs.Beginning.{outcomes_at, outcomes_long}
use Rattle.patterns_refinement.proofs.Forms.{by_constant, fold_kind, form_rule, defining_op_of, defining_op_type, kind_is, named_is, rule_for}
use Rattle.patterns_refinement.proofs.Going.{AreTyped, IsPlanned, wellformed_parts, has_type, made_parts, matched_parts, planned_as, planned_there, typed_at, typed_parts}
use Rattle.patterns_refinement.proofs.OfBits.{AllOfBits, run_bits}
use Rattle.patterns_refinement.proofs.OfKinds.{OfKinds, extras_run, numbers_run}
use Rattle.patterns_refinement.proofs.Rooted.{hold_at, named_at}
use Rattle.patterns_refinement.proofs.Ruled.{OfRule, known_kinds}
use Rattle.patterns_refinement.proofs.BoundValues.{AllHold, Stands, one_stands, standing_stands, stands_standing}
use Rattle.patterns_refinement.proofs.Trees.{each_found}
use Rattle.patterns_refinement.specs.Observing.{is_computed}

-- ---- a property that passes from a value to the operands of its defining operation holds of all bound values, if
-- the forms of all matched operations pass it on
abbrev pub Passes : Operation → (Header → Bool) → (Expression → Bool) → (Value → Type 0) → Type 0
Passes t verified good Q =
    (f : Expression) (v : Value) (h : Header) → good f ≡ true → defining_op_head t verified v ≡ Some h → rule_of h.name ≡ Some (rule_for f) → Q v → (w : Value) → In w h.operands → Q w

-- all forms
abbrev pub any_form : Expression → Bool
any_form f = true

pub any_forms : (os : List PatternOp) → list_all (λ (o : PatternOp). any_form o.form) os ≡ true
any_forms [] = refl
any_forms (o ∷ os) = any_forms os

module _ (t : Operation) (verified : Header → Bool) (good : Expression → Bool) (Q : Value → Type 0) (passes : Passes t verified good Q) where
  abbrev pub AllAre : BoundValues Value → Type 0
  AllAre b = (i : ℕ) (v : Value) → Stands i v b → Q v

  pattern_op_all : (k : ℕ) (p : PatternOp) (b c : BoundValues Value) → good p.form ≡ true → has_name p.form ≡ true → op_matches t verified (k, p) b ≡ Some c → AllAre b → AllAre c
  pattern_op_all k p b c s n e all i w at =
      let u = given_some (binding_at k b) (λ v. value_matched t verified p v b) c e in
      let g = given_some (defining_op_head t verified u.0) (λ h. header_matched t verified p h b) c u.2 in
      let f = when_is (named (name_of p.form) g.0.name && constraints_agree t verified p g.0) (all_bound same_value (operands_of p.form) g.0.operands b) c g.2 in
      let name = ap rule_of (named_is (name_of p.form) g.0.name (and_parts (named (name_of p.form) g.0.name) (constraints_agree t verified p g.0) f.0).0) ∙ form_rule p.form n in
      elim (all_from same_value same_value_true (operands_of p.form) g.0.operands b c f.1 i w at) [
        | inl m ↦ all i w m
        | inr m ↦ passes p.form u.0 g.0 s g.1 name (all k u.0 (standing_stands k u.0 b u.1)) w m
      ]

  abbrev AllPass : List (ℕ × PatternOp) → Type 0
  AllPass [] = Unit {0}
  AllPass (q ∷ ps) = ((good q.1.form ≡ true) × (has_name q.1.form ≡ true)) × AllPass ps

  pass_after : (ps : List (ℕ × PatternOp)) (q : ℕ × PatternOp) → AllPass ps → (good q.1.form ≡ true) × (has_name q.1.form ≡ true) → AllPass (ps ++ (q ∷ []))
  pass_after [] q s e = (e, tt)
  pass_after (p ∷ ps) q s e = (s.0, pass_after ps q s.1 e)

  pass_placed : (k : ℕ) (ps : List PatternOp) → list_all (λ (o : PatternOp). good o.form) ps ≡ true → list_all (λ (o : PatternOp). has_name o.form) ps ≡ true → AllPass (placed k ps)
  pass_placed k [] e n = tt
  pass_placed k (p ∷ ps) e n =
      let q = and_parts (good p.form) (list_all (λ (o : PatternOp). good o.form) ps) e in
      let r = and_parts (has_name p.form) (list_all (λ (o : PatternOp). has_name o.form) ps) n in
      pass_after (placed (k + 1) ps) (k, p) (pass_placed (k + 1) ps q.1 r.1) (q.0, r.0)

  pattern_ops_all : (ps : List (ℕ × PatternOp)) (b c : BoundValues Value) → AllPass ps → ops_match t verified ps b ≡ Some c → AllAre b → AllAre c
  pattern_ops_all [] b c s e all = subst AllAre (same_Some _ _ e) all
  pattern_ops_all (p ∷ ps) b c s e all =
      let g = given_some (op_matches t verified p b) (ops_match t verified ps) c e in
      pattern_ops_all ps g.0 c s.1 g.2 (pattern_op_all p.0 p.1 b g.0 s.0.0 s.0.1 g.1 all)

  none_stands : (xs : List ℕ) (i : ℕ) (v : Value) → Stands i v (map (λ j. None) xs) → ⊥
  none_stands [] i v e = none-some (Some v) e
  none_stands (x ∷ xs) zero v e = none-some v (same_Some _ _ e)
  none_stands (x ∷ xs) (suc i) v e = none_stands xs i v e

  pub matched_all : (p : PatternModel) (x : ℕ) (b : BoundValues Value) → list_all (λ (o : PatternOp). good o.form) p.old ≡ true → list_all (λ (o : PatternOp). has_name o.form) p.old ≡ true → matched t verified p x ≡ Some b → Q (Result x 0) → AllAre b
  matched_all p x b s n e q =
      let g = given_some (bound same_value p.root (Result x 0) (nothing (places p))) (λ b. ops_match t verified (placed (old_place p) p.old) b) b e in
      pattern_ops_all (placed (old_place p) p.old) g.0 b (pass_placed (old_place p) p.old s n) g.2
      (λ i v at. elim (bound_from same_value same_value_true p.root (Result x 0) (nothing (places p)) g.0 g.1 i v at) [
        | inl n ↦ absurd (none_stands (range_with_len 0 (places p)) i v n)
        | inr n ↦ subst Q (sym n.1) q
      ])

-- ---- operands of such operations
pub each_mapped : {X Y : Type 0} (f : X → Y) (test : Y → Bool) (xs : List X) → list_all test (map f xs) ≡ true → (x : X) → In x xs → test (f x) ≡ true
each_mapped f test [] e x i = absurd i
each_mapped f test (y ∷ ys) e x (inl i) = ap (λ z. test (f z)) i ∙ (and_parts (test (f y)) (list_all test (map f ys)) e).0
each_mapped f test (y ∷ ys) e x (inr i) = each_mapped f test ys (and_parts (test (f y)) (list_all test (map f ys)) e).1 x i

-- a kind
some_kind : (k : BitsKind) (o : Option BitsKind) → is_kind k o ≡ true → is_some o ≡ true
some_kind k None e = absurd (true≢false (sym e))
some_kind k (Some j) e = refl

some_resized : (c : Cast) (k : BitsKind) (o : Option BitsKind) → narrows c o k ≡ true → is_some o ≡ true
some_resized c k None e = absurd (true≢false (sym e))
some_resized c k (Some j) e = refl

module _ (h : Header) (k : BitsKind) where
  two_kinds : (o : Arithmetic) (js : List (Option BitsKind)) → takes (how.Binary o) h k js ≡ true → list_all is_some js ≡ true
  two_kinds o [] e = absurd (true≢false (sym e))
  two_kinds o (i ∷ []) e = absurd (true≢false (sym e))
  two_kinds o (i ∷ j ∷ []) e = let q = and_parts (is_kind k i) (is_kind k j) e in (λ z. some_kind k i q.0 z && (some_kind k j q.1 z && true))
  two_kinds o (i ∷ j ∷ l ∷ js) e = absurd (true≢false (sym e))

  compared_kinds : (js : List (Option BitsKind)) → takes how.Compare h k js ≡ true → list_all is_some js ≡ true
  compared_kinds [] e = absurd (true≢false (sym e))
  compared_kinds (i ∷ []) e = absurd (true≢false (sym e))
  compared_kinds (None ∷ j ∷ []) e = absurd (true≢false (sym e))
  compared_kinds (Some i ∷ j ∷ []) e = let q = and_parts (is_kind i j) (same_kind (kind.Int 1) k) e in (λ z. some_kind i j q.0 z && true)
  compared_kinds (i ∷ j ∷ l ∷ js) e = absurd (true≢false (sym e))

  resized_kind : (c : Cast) (js : List (Option BitsKind)) → takes (how.IntegerCast c) h k js ≡ true → list_all is_some js ≡ true
  resized_kind c [] e = absurd (true≢false (sym e))
  resized_kind c (j ∷ []) e = λ z. some_resized c k j e z && true
  resized_kind c (j ∷ l ∷ js) e = absurd (true≢false (sym e))

  index_kind : (c : Cast) (js : List (Option BitsKind)) → takes (how.IndexCast c) h k js ≡ true → list_all is_some js ≡ true
  index_kind c [] e = absurd (true≢false (sym e))
  index_kind c (j ∷ []) e = λ z. some_resized c k j e z && true
  index_kind c (j ∷ l ∷ js) e = absurd (true≢false (sym e))

  selected_kinds : (js : List (Option BitsKind)) → takes how.Select h k js ≡ true → list_all is_some js ≡ true
  selected_kinds [] e = absurd (true≢false (sym e))
  selected_kinds (c ∷ []) e = absurd (true≢false (sym e))
  selected_kinds (c ∷ i ∷ []) e = absurd (true≢false (sym e))
  selected_kinds (c ∷ i ∷ j ∷ []) e =
      let q = and_parts (is_kind (kind.Int 1) c) (is_kind k i && is_kind k j) e in
      let r = and_parts (is_kind k i) (is_kind k j) q.1 in
      (λ z. some_kind (kind.Int 1) c q.0 z && (some_kind k i r.0 z && (some_kind k j r.1 z && true)))
  selected_kinds (c ∷ i ∷ j ∷ l ∷ js) e = absurd (true≢false (sym e))

  operands_of_kinds : (f : Expression) (js : List (Option BitsKind)) → takes (rule_for f) h k js ≡ true → list_all is_some js ≡ true
  operands_of_kinds (form.Binary o i j) js e = two_kinds o js e
  operands_of_kinds (form.Compare q i j) js e = compared_kinds js e
  operands_of_kinds (form.Select c i j) js e = selected_kinds js e
  operands_of_kinds (form.IntegerCast c i) js e = resized_kind c js e
  operands_of_kinds (form.IndexCast c i) js e = index_kind c js e

-- operands are known if the outcome is
known_compared : (p : Predicate) (x y z : Outcome) → is_some z ≡ true → compare_outcome p x y ≡ Some z → (is_some x ≡ true) × (is_some y ≡ true)
known_compared p (Some x) (Some y) z k e = (refl, refl)
known_compared p (Some x) None z k e = absurd (true≢false (sym k ∙ ap is_some (sym (same_Some _ _ e))))
known_compared p None y z k e = absurd (true≢false (sym k ∙ ap is_some (sym (same_Some _ _ e))))

pub operands_known : (f : Expression) (h : Header) (k : BitsKind) (xs : List Outcome) (z : Outcome) → passes_poison f ≡ true → is_some z ≡ true → makes_by (rule_for f) h k xs ≡ Some z → list_all is_some xs ≡ true
operands_known (form.Binary o i j) h k xs z s known e = known_two (pair_outcome o) z (λ x y e. known_pair o x y z known e) xs e
operands_known (form.Compare q i j) h k xs z s known e =
    let g = given_some (requested (property_of (codes "predicate") h.properties)) (λ p. of_two (compare_outcome p) xs) z e in
    known_two (compare_outcome g.0) z (λ x y e. known_compared g.0 x y z known e) xs g.2
operands_known (form.Select c i j) h k xs z s known e = absurd (true≢false (sym s))
operands_known (form.IntegerCast c i) h k xs z s known e = known_one (resize_outcome c k) z (λ x e. known_resized c k x z known e) xs e
operands_known (form.IndexCast c i) h k xs z s known e = known_one (resize_outcome c k) z (λ x e. known_resized c k x z known e) xs e

-- ---- types
written_kind : (value_types : List PatternType) (j : ℕ) (term : TypeTerm) → Stands j term (map written value_types) → is_some (kind_of term) ≡ true
written_kind [] j term s = absurd (none-some (Some term) s)
written_kind (sort.Concrete k ∷ value_types) zero term s = ap (λ term. is_some (kind_of term)) (sym (same_Some _ _ (same_Some _ _ s))) ∙ ap is_some (kind_back k)
written_kind (sort.Variable v ∷ value_types) zero term s = absurd (none-some term (same_Some _ _ s))
written_kind (sort.Concrete k ∷ value_types) (suc j) term s = written_kind value_types j term s
written_kind (sort.Variable v ∷ value_types) (suc j) term s = written_kind value_types j term s

module _ (t : Operation) (verified : Header → Bool) (n : ℕ) (p : PatternModel) where
  -- a bound type is the type of a bound value, or was bound before
  abbrev pub IsOfValue : BoundValues Value → TypeTerm → Type 0
  IsOfValue b term = (i : ℕ) × (v : Value) × Stands i v b × (type_of_value v t ≡ Some term)

  pub types_from : (k : ℕ) (tys : List ℕ) (b : BoundValues Value) (ts us : BoundValues TypeTerm) → types_at t verified k tys b ts ≡ Some us → (j : ℕ) (term : TypeTerm) → Stands j term us → Stands j term ts ⊎ IsOfValue b term
  types_from k [] b ts us r j term s = inl (subst (Stands j term) (sym (same_Some _ _ r)) s)
  types_from k (y ∷ tys) b ts us r j term s =
      let g = given_some (type_at t verified k y b ts) (types_at t verified (k + 1) tys b) us r in
      let v = given_some (binding_at k b) (λ v. given (type_of_value v t) (λ term. bound same_type y term ts)) g.0 g.1 in
      let w = given_some (type_of_value v.0 t) (λ term. bound same_type y term ts) g.0 v.2 in
      elim (types_from (k + 1) tys b g.0 us g.2 j term s) [
        | inl m ↦ elim (bound_from same_type type_is y w.0 ts g.0 w.2 j term m) [
          | inl h ↦ inl h
          | inr h ↦ inr (k, v.0, standing_stands k v.0 b v.1, w.1 ∙ ap (λ z. Some z) (sym h.1))
        ]
        | inr m ↦ inr m
      ]

  of_value : (b : BoundValues Value) → ((i : ℕ) (v : Value) → Stands i v b → is_some (kind_in t v) ≡ true) → (term : TypeTerm) → IsOfValue b term → is_some (kind_of term) ≡ true
  of_value b value_types term h = ap (λ o. is_some (given o kind_of)) (sym h.3) ∙ value_types h.0 h.1 h.2

  all_of_kinds : (b : BoundValues Value) (ts : BoundValues TypeTerm) → typed t verified n p b ≡ Some ts → ((i : ℕ) (v : Value) → Stands i v b → is_some (kind_in t v) ≡ true) → AreOfKinds ts
  all_of_kinds b ts e value_types j term s =
      let g = given_some (types_at t verified 0 p.values b (map written p.value_types)) (types_at t verified (old_place p) (map PatternOp.ty p.old) b) ts e in
      elim (types_from (old_place p) (map PatternOp.ty p.old) b g.0 ts g.2 j term (standing_stands j term ts s)) [
        | inl m ↦ elim (types_from 0 p.values b (map written p.value_types) g.0 g.1 j term m) [ inl w ↦ written_kind p.value_types j term w | inr h ↦ of_value b value_types term h ]
        | inr h ↦ of_value b value_types term h
      ]

-- ---- the defining operation of a value in a ready module
module _ (m : Module) (ready : IsReady m) (v : Value) (h : Header) (e : defining_op_head m.tree (is_verified m.tree) v ≡ Some h) where
  pub defining_op_kinded : is_kinded m.tree h ≡ true
  defining_op_kinded =
      let g = defining_op_of m.tree (is_verified m.tree) v h e in
      subst (λ h. is_kinded m.tree h ≡ true) g.heads (each_found (λ h. is_kinded m.tree h ≡ true) g.id m.tree ready.kinded g.here g.found).0

  defining_op_known : (r : How) → rule_of h.name ≡ Some r → (k : BitsKind) → result_kind h ≡ Some k → OfRule m.tree h r
  defining_op_known r name k i = known_kinds m.tree h defining_op_kinded r name k i

  -- the kind of the operation's result
  pub defining_op_kind : (term : TypeTerm) → type_of_value v m.tree ≡ Some term → result_kind h ≡ kind_of term
  defining_op_kind term of = ap (λ o. given o kind_of) (defining_op_type m.tree (is_verified m.tree) v h term (defining_op_of m.tree (is_verified m.tree) v h e) of)

  -- the kinds of the operation's values, if the value has a kind
  pub defining_op_kinds : (f : Expression) → rule_of h.name ≡ Some (rule_for f) → is_some (kind_in m.tree v) ≡ true → OfRule m.tree h (rule_for f)
  defining_op_kinds f name s = go (type_of_value v m.tree) refl s
    where
      go : (q : Option TypeTerm) → type_of_value v m.tree ≡ q → is_some (given q kind_of) ≡ true → OfRule m.tree h (rule_for f)
      go None i s = absurd (true≢false (sym s))
      go (Some term) i s = let k = some_there (kind_of term) s in defining_op_known (rule_for f) name k.0 (defining_op_kind term i ∙ k.1)

-- the number of a constant is of its type
constant_fits : (m : Module) (ready : IsReady m) (v : Value) (y : Known) (term : TypeTerm) (k : BitsKind) → known m.tree (is_verified m.tree) v ≡ Some y → type_of_value v m.tree ≡ Some term → kind_of term ≡ Some k → (y.0 ≡ k) × (is_bits y.0 y.1 ≡ true)
constant_fits m ready v y term k e of is =
    let g = given_some (defining_op_head m.tree (is_verified m.tree) v) (λ h. when (named (codes "arith.constant") h.name) (fold_of h.name h.properties [] h.results)) y e in
    let f = when_is (named (codes "arith.constant") g.0.name) (fold_of g.0.name g.0.properties [] g.0.results) y g.2 in
    let name = ap rule_of (named_is (codes "arith.constant") g.0.name f.0) ∙ by_constant in
    let r = defining_op_known m ready v g.0 g.1 how.Constant name y.0 (fold_kind g.0.name g.0.properties [] g.0.results y f.1) in (
      same_Some _ _ (sym (fold_kind g.0.name g.0.properties [] g.0.results y f.1) ∙ defining_op_kind m ready v g.0 g.1 term of ∙ is),
      sym (ap are_its_bits f.1) ∙ r.operands,
    )

-- ---- a pattern with a plan
module _ (m : Module) (p : PatternModel) (x : ℕ) (proper : IsProper p) (ready : IsReady m) (made : List Operation) (value : Value) (plan : planned m.tree (is_verified m.tree) m.next p x ≡ Some (made, value)) where
  abbrev t : Operation
  t = m.tree

  abbrev verified : Header → Bool
  verified = is_verified m.tree

  -- the kinds of the variables, given the kinds of types
  abbrev pub kinds_first : BoundValues TypeTerm → List BitsKind
  kinds_first ts = map (kind_at (map bound_type ts)) p.values

  -- the type of a value has a kind
  pub record IsTypedAs (w : Value) (k : BitsKind) : Type 0 where
    pub term : TypeTerm
    pub of_value : type_of_value w m.tree ≡ Some term
    pub of : kind_of term ≡ Some k

  -- the type of the root
  pub record Rooted (ts : BoundValues TypeTerm) : Type 0 where
    pub ty : ℕ
    pub at : slice_get (map PatternOp.ty p.old) (p.root - old_place p) ≡ Some ty
    pub width : is_width (width_of (kind_at (map bound_type ts) ty)) ≡ true

  pub record Here : Type 0 where
    pub here : BoundValues Value
    pub types : BoundValues TypeTerm
    pub is_matched : matched m.tree (is_verified m.tree) p x ≡ Some here
    pub are_types : typed m.tree (is_verified m.tree) m.next p here ≡ Some types
    pub parts : IsPlanned m.tree (is_verified m.tree) m.next p here types made value
    pub root : has_value (Result x 0) m.tree ≡ true
    pub computed : is_computed m.tree (Result x 0) ≡ true
    pub rooted : Rooted types
    pub value_types : AreOfKinds types
    pub bound_kinds : (i : ℕ) (w : Value) → Stands i w here → is_some (kind_in m.tree w) ≡ true
    pub variables : (i : ℕ) (w : Value) → i < length p.values → Stands i w here → IsTypedAs w (kind_at (kinds_first types) i)

  numeric_at : (ts : BoundValues TypeTerm) (i : ℕ) (o : Option TypeTerm) → list_all is_numeric ts ≡ true → slice_get ts i ≡ Some o → is_numeric o ≡ true
  numeric_at [] i o e s = absurd (none-some o s)
  numeric_at (t ∷ ts) zero o e s = ap is_numeric (sym (same_Some _ _ s)) ∙ (and_parts (is_numeric t) (list_all is_numeric ts) e).0
  numeric_at (t ∷ ts) (suc i) o e s = numeric_at ts i o (and_parts (is_numeric t) (list_all is_numeric ts) e).1 s

  -- the defining operation of a matched value
  record Matched (b : BoundValues Value) (ts : BoundValues TypeTerm) (i : ℕ) : Type 0 where
    pub ty : ℕ
    pub at : slice_get (map PatternOp.ty p.old) i ≡ Some ty
    pub its_value : Value
    pub stands : Stands (old_place p + i) its_value b
    pub term : TypeTerm
    pub kind : BitsKind
    pub of_value : type_of_value its_value m.tree ≡ Some term
    pub of : kind_of term ≡ Some kind
    pub type_stands : Stands ty term ts
    pub width : is_width (width_of kind) ≡ true
    pub computed : is_computed m.tree its_value ≡ true

  matched_at : (b : BoundValues Value) (ts : BoundValues TypeTerm) (i : ℕ) → AllHold t verified (old_place p) p.old b → AreTyped t verified m.next p b ts → list_all is_numeric ts ≡ true → i < length p.old → Matched b ts i
  matched_at b ts i holds are numeric l =
      let a = typed_at t verified (old_place p) (map PatternOp.ty p.old) b ts are.pattern_ops i (omega (arith, l, length-map p.old PatternOp.ty)) in
      let h = hold_at t verified (old_place p) p.old b holds i l in
      let w = a.2 in
      let v = h.2 in
      let of : type_of_value v.value t ≡ Some w.term = ap (λ v. type_of_value v t) (one_stands (old_place p + i) v.value w.value b v.stands w.stands) ∙ w.of_value in
      let k = defining_op_kinds m ready v.value v.header v.gives h.0.form (ap rule_of (named_is (name_of h.0.form) v.header.name v.name) ∙ form_rule h.0.form (named_at p.old i h.0 proper.named h.1))
      (ap (λ o. is_some (given o kind_of)) of ∙ numeric_at ts a.0 (Some w.term) numeric w.type_stands) in
      record {
        ty = a.0;
        at = a.1;
        its_value = v.value;
        stands = v.stands;
        term = w.term;
        kind = k.kind;
        of_value = of;
        of = sym (defining_op_kind m ready v.value v.header v.gives w.term of) ∙ k.is;
        type_stands = w.type_stands;
        width = k.width;
        computed = let g = defining_op_of m.tree (is_verified m.tree) v.value v.header v.gives in ap (is_computed m.tree) g.value ∙ ap is_arithmetic_there g.found ∙ ap is_arithmetic g.heads ∙ k.arithmetic;
      }

  root_at : (b : BoundValues Value) (ts : BoundValues TypeTerm) → Matched b ts (p.root - old_place p) → Rooted ts
  root_at b ts w = record { ty = w.ty; at = w.at; width = ap (λ k. is_width (width_of k)) (kind_is ts w.ty w.term w.kind w.type_stands w.of) ∙ w.width }

  root_kind : (b : BoundValues Value) (ts : BoundValues TypeTerm) (v : Value) (i : ℕ) → Matched b ts i → Stands (old_place p + i) v b → is_some (kind_in m.tree v) ≡ true
  root_kind b ts v i w s =
      subst (λ v. is_some (kind_in t v) ≡ true) (one_stands (old_place p + i) w.its_value v b w.stands s) (ap (λ o. is_some (given o kind_of)) w.of_value ∙ ap is_some w.of)

  -- the operands of an operation whose result has a kind have kinds
  pub kinds_pass : Passes m.tree (is_verified m.tree) any_form (λ w. is_some (kind_in m.tree w) ≡ true)
  kinds_pass f v h s e r q w i =
      let k = defining_op_kinds m ready v h e f r q in
      each_mapped (kind_in t) is_some h.operands (operands_of_kinds h k.kind f (map (kind_in t) h.operands) k.operands) w i

  variables_typed : (b : BoundValues Value) (ts : BoundValues TypeTerm) → AreTyped t verified m.next p b ts → AreOfKinds ts → (i : ℕ) (w : Value) → i < length p.values → Stands i w b → IsTypedAs w (kind_at (kinds_first ts) i)
  variables_typed b ts are value_types i w l s =
      let a = typed_at t verified 0 p.values b ts are.variables i l in
      let q = a.2 in
      let same : q.value ≡ w = one_stands i q.value w b (subst (λ z. Stands z q.value b) (no_more i) q.stands) s in
      let k = some_there (kind_of q.term) (value_types a.0 q.term (stands_standing a.0 q.term ts q.type_stands)) in
      let at : kind_at (kinds_first ts) i ≡ k.0 =
      get_or_from_slice_get (kinds_first ts) i (kind_at (map bound_type ts) a.0) (kind.Int 0) (slice_get-map (kind_at (map bound_type ts)) p.values i ∙ ap (option_map (kind_at (map bound_type ts))) a.1)
      ∙ kind_is ts a.0 q.term k.0 q.type_stands k.1 in
      record { term = q.term; of_value = ap (λ w. type_of_value w t) (sym same) ∙ q.of_value; of = k.1 ∙ ap (λ k. Some k) (sym at) }
    where
      no_more : (i : ℕ) → 0 + i ≡ i
      no_more i = omega arith

  pub found_here : Here
  found_here =
      let s = given_some (matched t verified p x) (λ c. given (typed t verified m.next p c) (planned_by t verified m.next p c)) (made, value) (sym (planned_as t verified m.next p x) ∙ plan) in
      let r = given_some (typed t verified m.next p s.0) (planned_by t verified m.next p s.0) (made, value) s.2 in
      let f = wellformed_parts p proper.wellformed in
      let k = made_parts p proper.buildable in
      let found = matched_parts t verified m.next p x s.0 s.1 in
      let are = typed_parts t verified m.next p s.0 r.0 r.1 in
      let parts = planned_there t verified m.next p x s.0 r.0 made value s.1 r.1 plan in
      let root = matched_at s.0 r.0 (p.root - old_place p) found.pattern_ops are parts.numeric (omega (arith, f.root, k.root)) in
      let place : p.root ≡ old_place p + (p.root - old_place p) = omega (arith, k.root) in
      let rooted = root_kind s.0 r.0 (Result x 0) (p.root - old_place p) root (subst (λ z. Stands z (Result x 0) s.0) place found.root) in
      let bound_kinds = matched_all t verified any_form (λ w. is_some (kind_in m.tree w) ≡ true) kinds_pass p x s.0 (any_forms p.old) proper.named s.1 rooted in
      let value_types = all_of_kinds t verified m.next p s.0 r.0 r.1 bound_kinds in
      record {
        here = s.0;
        types = r.0;
        is_matched = s.1;
        are_types = r.1;
        parts = parts;
        root = has_type t verified (old_place p) (map PatternOp.ty p.old) s.0 r.0 are.pattern_ops p.root (Result x 0) k.root (omega (arith, f.root, length-map p.old PatternOp.ty)) found.root;
        computed =
            subst (λ v. is_computed m.tree v ≡ true)
            (one_stands (old_place p + (p.root - old_place p)) root.its_value (Result x 0) s.0 root.stands (subst (λ z. Stands z (Result x 0) s.0) place found.root)) root.computed;
        rooted = root_at s.0 r.0 root;
        value_types = value_types;
        bound_kinds = bound_kinds;
        variables = variables_typed s.0 r.0 are value_types;
      }

  -- ---- the planned numbers
  module _ (q : Here) where
    abbrev ks : List BitsKind
    ks = map bound_type q.types

    abbrev nothing_known : Assignment
    nothing_known v = None

    abbrev start : List Outcome
    start = outcomes t verified m.next p 0 p.values q.here

    -- a known outcome at the beginning is the number of a constant of its type
    pub record Starts (i : ℕ) (y : Known) : Type 0 where
      pub its_value : Value
      pub stands : Stands i its_value q.here
      pub is_known : known m.tree (is_verified m.tree) its_value ≡ Some y
      pub of : y.0 ≡ kind_at (kinds_first q.types) i
      pub bits : is_bits y.0 y.1 ≡ true

    pub starts : (i : ℕ) (y : Known) → slice_get (outcomes m.tree (is_verified m.tree) m.next p 0 p.values q.here) i ≡ Some (Some y) → Starts i y
    starts i y e =
        let l = slice_get_within start i (Some y) e in
        let long = outcomes_long t verified nothing_known q.here q.types m.next p 0 p.values in
        let within : i < length p.values = omega (arith, l, long) in
        let at = same_Some _ _ (sym (outcomes_at t verified nothing_known q.here q.types m.next p 0 p.values i within) ∙ e) in
        let k = one (list_any (eqb (0 + i)) p.constants) at in
        let w = given_some (binding_at (0 + i) q.here) (known t verified) y k in
        let stands = subst (λ z. Stands z w.0 q.here) (no_more i) (standing_stands (0 + i) w.0 q.here w.1) in
        let is = q.variables i w.0 within stands in
        let fits = constant_fits m ready w.0 y is.term (kind_at (kinds_first q.types) i) w.2 is.of_value is.of in
        record { its_value = w.0; stands = stands; is_known = w.2; of = fits.0; bits = fits.1 }
      where
        one : (c : Bool) → (if c then known_at t verified m.next p q.here (0 + i) else None) ≡ Some y → known_at t verified m.next p q.here (0 + i) ≡ Some y
        one true e = e
        one false e = absurd (none-some y e)

        no_more : (i : ℕ) → 0 + i ≡ i
        no_more i = omega arith

    started : OfKinds (kinds_first q.types) (outcomes m.tree (is_verified m.tree) m.next p 0 p.values q.here)
    started = record {
      long = length-map p.values (kind_at ks) ∙ sym (outcomes_long t verified nothing_known q.here q.types m.next p 0 p.values);
      are = λ i y e. (starts i y e).of;
    }

    pub numbers_of_kinds : OfKinds (kinds_given (map bound_type q.types) p) q.parts.env
    numbers_of_kinds =
        let g = given_some (run (map (extra_step ks) p.extra) start) (run (map (number_step ks) p.given)) q.parts.env (sym (run_after (map (extra_step ks) p.extra) (map (number_step ks) p.given) start) ∙ q.parts.numbers) in
        numbers_run ks p.given (kinds_after (extra_kind ks) p.extra (map (kind_at ks) p.values)) g.0 q.parts.env (extras_run ks p.extra (map (kind_at ks) p.values) start g.0 started g.1) g.2

    pub numbers_of_bits : AllOfBits q.parts.env
    numbers_of_bits = run_bits (Content.given (content_with ks p)) start q.parts.env (λ i y e. (starts i y e).bits) q.parts.numbers
