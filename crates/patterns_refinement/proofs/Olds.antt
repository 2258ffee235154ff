-- The steps of the matched operations compute what the module's operations compute.
use Rattle.std.proofs.Common.{◌≡◌, ℕ, ◌+◌, ◌-◌, ◌<◌, ◌≤◌, refl, ap, sym, ◌∙◌, subst, List, [], ◌∷◌, ◌++◌, length, map, Bool, true, ◌&&◌, Some, slice_get, ◌⊎◌, inl, inr, arith}
use Rattle.std.specs.Prelude.{nat_lt}
use Rattle.std.specs.List.{list_all}
use Rattle.std.proofs.lemmas.Bool.{and_parts, or_cases, cases_eq, ltb-true}
use Rattle.std.proofs.lemmas.List.{length_push}
use Rattle.ir_types.specs.declared.bits.BitsKind.{BitsKind}
use Rattle.ir_types.specs.Terms.{TypeTerm}
use Rattle.ir_tree.specs.declared.value.Value.{Value}
use Rattle.ir_tree.specs.Meaning.{Operation}
use Rattle.ir_tree_laws.specs.Values.{type_of_value}
use Rattle.dialects_int.specs.Folds.{kind_of, rule_of}
use Rattle.user_patterns_check.specs.Outcomes.{Outcome, given, run, step_of}
use Rattle.patterns_laws.proofs.KnownFolds.{given_at}
use Rattle.user_patterns_data.specs.declared.pattern.Expression.{Expression}
use Rattle.user_patterns_data.specs.declared.pattern.Expression.TheVariants as form
use Rattle.user_patterns_data.specs.declared.pattern.PatternOp.{PatternOp}
use Rattle.user_patterns_data.specs.Fitting.{kind_at, pattern_op_step}
use Rattle.user_patterns_data.specs.Names.{name_of, operands_of}
use Rattle.user_patterns_data.specs.Matching.{Header, BoundValues}
use Rattle.user_patterns_data.specs.Planning.{bound_type}
use Rattle.user_patterns_data.specs.Shapes.{PatternModel}
use Rattle.user_patterns_data.specs.WellFormed.{form_is_valid, is_old, is_type, is_within, old_begins, old_is_valid, olds_are_valid}
use Rattle.user_patterns_build.specs.CanBuild.{has_name}
use Rattle.ir_tree_laws.proofs.Reasoned.{some_there}
use Rattle.patterns_refinement.specs.Meaning.{Assignment, IsOfType, result_kind}
use Rattle.patterns_refinement.specs.Applied.{AreOfKinds, kinds_after, pattern_op_kind}
use Rattle.patterns_refinement.proofs.BoundValues.{AllHold, AllTyped, Holds, IsTyped, Stands, ValuesStand, one_stands, stands_standing}
use Rattle.patterns_refinement.proofs.Trees.{TypesFound}
use Rattle.patterns_refinement.proofs.OfKinds.{IsKind, OfKinds, push_kinds}
use Rattle.patterns_refinement.proofs.Steps.{push_last, push_other}
use Rattle.patterns_refinement.proofs.Forms.{AllShow, FitThere, form_asks, form_makes, form_rule, defining_op_of, defining_op_type, kind_is, made_there, named_is, rule_for}
use Rattle.patterns_refinement.proofs.Numbers.{within_parts}

-- ---- places of operands
abbrev pub AllAre : (ℕ → Bool) → List ℕ → Type 0
AllAre g [] = Unit {0}
AllAre g (k ∷ ks) = (g k ≡ true) × AllAre g ks

pub form_places : (p : PatternModel) (g : ℕ → Bool) (f : Expression) → form_is_valid p g f ≡ true → AllAre g (operands_of f)
form_places p g (form.Binary o i j) e = let h = and_parts (g i) (g j) e in (h.0, (h.1, tt))
form_places p g (form.Compare q i j) e = let h = and_parts (g i) (g j) e in (h.0, (h.1, tt))
form_places p g (form.Select c i j) e = let h = and_parts (g c) (g i && g j) e in let l = and_parts (g i) (g j) h.1 in (h.0, (l.0, (l.1, tt)))
form_places p g (form.IntegerCast c i) e = (e, tt)
form_places p g (form.IndexCast c i) e = (e, tt)

pub operands_show : (g : ℕ → Bool) (a : Assignment) (env : List Outcome) (b : BoundValues Value) → ((i : ℕ) (v : Value) → g i ≡ true → Stands i v b → slice_get env i ≡ Some (a v))
    → (ks : List ℕ) (vs : List Value) → AllAre g ks → ValuesStand ks vs b → AllShow a env ks vs
operands_show g a env b shows [] [] h s = tt
operands_show g a env b shows [] (v ∷ vs) h s = absurd s
operands_show g a env b shows (k ∷ ks) [] h s = absurd s
operands_show g a env b shows (k ∷ ks) (v ∷ vs) h s = (shows k v h.0 s.0, operands_show g a env b shows ks vs h.1 s.1)

module _ (t : Operation) (verified : Header → Bool) (a : Assignment) (b : BoundValues Value) (ts : BoundValues TypeTerm) (p : PatternModel) (fits : FitThere t verified a b) (value_types : AreOfKinds ts) (of : TypesFound a t) where
  -- the place of a variable, an extra constant or a matched operation
  abbrev pub IsOldPlace : ℕ → Type 0
  IsOldPlace j = (j < length p.values + length p.extra) ⊎ (old_begins p ≤ j)

  abbrev pub ShowsOld : ℕ → List Outcome → Type 0
  ShowsOld k env = (j : ℕ) (v : Value) → IsOldPlace j → j < k → Stands j v b → slice_get env j ≡ Some (a v)

  pub record OldsRun (k : ℕ) (ps : List PatternOp) (env : List Outcome) : Type 0 where
    pub new : List Outcome
    pub ran : run (map (pattern_op_step (map bound_type ts)) ps) env ≡ Some new
    pub shows : ShowsOld (k + length ps) new
    pub of_kinds : (es : List BitsKind) → OfKinds es env → OfKinds (kinds_after (pattern_op_kind (map bound_type ts)) ps es) new

  -- a bound value has the kind of its type
  kind_there : (k ty : ℕ) (v : Value) → Stands k v b → IsTyped t verified k ty b ts → IsKind (kind_at (map bound_type ts) ty) (a v)
  kind_there k ty v s q x e =
      let same : v ≡ q.value = one_stands k v q.value b s q.stands in
      let typed : IsOfType q.term (Some x) = subst (λ o. IsOfType q.term o) (ap a (sym same) ∙ e) (of q.value q.term q.of_value) in
      sym (kind_is ts ty q.term x.0 q.type_stands typed.0)

  old_shown : (k : ℕ) (env : List Outcome) → old_begins p ≤ k → ShowsOld k env → (i : ℕ) (v : Value) → is_old p k i ≡ true → Stands i v b → slice_get env i ≡ Some (a v)
  old_shown k env low shows i v e s = elim (or_cases (nat_lt i (length p.values + length p.extra)) (is_within (old_begins p) k i) e) [
    | inl h ↦ let l = ltb-true i (length p.values + length p.extra) h in shows i v (inl l) (omega (arith, l, low)) s
    | inr h ↦ let l = within_parts (old_begins p) k i h in shows i v (inr l.0) l.1 s
  ]

  -- the step of a pattern op computes the outcome of the value at its place
  pattern_op_given : (k : ℕ) (o : PatternOp) (env : List Outcome) → old_begins p ≤ k → old_is_valid p k o ≡ true → has_name o.form ≡ true → (r : Holds t verified k o b) → IsTyped t verified k o.ty b ts → ShowsOld k env
      → step_of (pattern_op_step (map bound_type ts) o) env ≡ Some (a r.value)
  pattern_op_given k o env low st named r q shows =
      let places = form_places p (is_old p k) o.form (and_parts (is_type p o.ty) (form_is_valid p (is_old p k) o.form) st).1 in
      let same : r.value ≡ q.value = one_stands k r.value q.value b r.stands q.stands in
      let first = defining_op_type t verified r.value r.header q.term (defining_op_of t verified r.value r.header r.gives) (ap (λ v. type_of_value v t) same ∙ q.of_value) in
      let k_is = some_there (kind_of q.term) (value_types o.ty q.term (stands_standing o.ty q.term ts q.type_stands)) in
      let kind : result_kind r.header ≡ Some (kind_at (map bound_type ts) o.ty) = ap (λ o. given o kind_of) first ∙ k_is.1 ∙ ap (λ k. Some k) (sym (kind_is ts o.ty q.term k_is.0 q.type_stands k_is.1)) in
      let name = named_is (name_of o.form) r.header.name r.name in
      sym (form_makes a env r.header (kind_at (map bound_type ts) o.ty) o.form named name kind (form_asks t verified o.form r.header.properties r.asks)
      (operands_show (is_old p k) a env b (old_shown k env low shows) (operands_of o.form) r.header.operands places r.operands))
      ∙ made_there t verified a r.value r.header (rule_for o.form) (kind_at (map bound_type ts) o.ty) (fits k r.value r.header r.stands r.gives) (ap rule_of name ∙ form_rule o.form named) kind

  shows_more : (k : ℕ) (env : List Outcome) (v : Value) → length env ≡ k → Stands k v b → ShowsOld k env → ShowsOld (k + 1) (env ++ (a v ∷ []))
  shows_more k env v l at shows j w o m s = elim (cases_eq j k) [
    | inl e ↦ ap (slice_get (env ++ (a v ∷ []))) (e ∙ sym l) ∙ push_last env (a v) ∙ ap (λ z. Some (a z)) (sym (one_stands k w v b (subst (λ z. Stands z w b) e s) at))
    | inr n ↦ push_other env (a v) j (a w) (shows j w o (omega (arith, m, n)) s)
  ]

  pub olds_run : (end k : ℕ) (ps : List PatternOp) (env : List Outcome) → length env ≡ k → k + length ps ≡ end → old_begins p ≤ k → olds_are_valid p end ps ≡ true → list_all (λ (o : PatternOp). has_name o.form) ps ≡ true
      → AllHold t verified k ps b → AllTyped t verified k (map PatternOp.ty ps) b ts → ShowsOld k env → OldsRun k ps env
  olds_run end k [] env l sum low st named h q shows = record { new = env; ran = refl; shows = λ j v o m s. shows j v o (omega (arith, m)) s; of_kinds = λ es g. g }
  olds_run end k (o ∷ ps) env l sum low st named h q shows =
      let parts = and_parts (old_is_valid p (end - length (o ∷ ps)) o) (olds_are_valid p end ps) st in
      let names = and_parts (has_name o.form) (list_all (λ (o : PatternOp). has_name o.form) ps) named in
      let at : end - length (o ∷ ps) ≡ k = omega (arith, sum) in
      let gives = pattern_op_given k o env low (subst (λ z. old_is_valid p z o ≡ true) at parts.0) names.0 h.0 q.0 shows in
      let v = h.0.value in
      let ih = olds_run end (k + 1) ps (env ++ (a v ∷ [])) (length_push env (a v) ∙ ap (λ n. n + 1) l) (omega (arith, sum)) (omega (arith, low)) parts.1 names.1 h.1 q.1 (shows_more k env v l h.0.stands shows) in
      record {
        new = ih.new;
        ran =
            given_at (step_of (pattern_op_step (map bound_type ts) o) env) (a v) (λ x. run (map (pattern_op_step (map bound_type ts)) ps) (env ++ (x ∷ []))) (Some ih.new) gives ih.ran;
        shows = λ j w o m s. ih.shows j w o (omega (arith, m)) s;
        of_kinds = λ es g.
            ih.of_kinds (es ++ (kind_at (map bound_type ts) o.ty ∷ [])) (push_kinds es env (kind_at (map bound_type ts) o.ty) (a v) g (kind_there k o.ty v h.0.stands q.0));
      }
