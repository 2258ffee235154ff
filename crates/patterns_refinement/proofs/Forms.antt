-- The operations of patterns compute what their steps compute.
use Rattle.std.proofs.Common.{◌≡◌, ℕ, refl, ap, sym, ◌∙◌, subst, List, [], ◌∷◌, map, Bool, true, false, true≢false, ◌&&◌, eqb, eqb-true, Option, Some, None, slice_get, inl, inr}
use Rattle.std.specs.Prelude.{codes, option_map, option_and_then, if◌then◌else◌, is_some}
use Rattle.std.specs.List.{list_all}
use Rattle.std.proofs.lemmas.Bool.{and_parts}
use Rattle.std.proofs.lemmas.Option.{none-some, slice_get-map, get_or_from_slice_get, same_Some}
use Rattle.std.proofs.lemmas.Slice.Eq.{bytes_eq-Decides}
use Rattle.std.proofs.NetLemmas.Options.{map_some}
use Rattle.ir_types.specs.declared.bits.BitsKind.{BitsKind}
use Rattle.ir_types.specs.declared.bits.BitsKind.TheVariants as kind
use Rattle.ir_types.specs.Terms.{TypeTerm, AttrTerm}
use Rattle.ir_tree.specs.declared.value.Value.{Value}
use Rattle.ir_tree.specs.declared.value.Value.TheVariants.{Result, Arg}
use Rattle.ir_tree.specs.Tree.{head}
use Rattle.ir_tree.specs.Ids.{find}
use Rattle.ir_tree.specs.Meaning.{Operation}
use Rattle.ir_tree_laws.specs.Values.{type_of_value}
use Rattle.dialects_int.specs.declared.operations.Cast.TheVariants as cast
use Rattle.dialects_int.specs.declared.operations.Predicate.{Predicate}
use Rattle.dialects_int.specs.declared.operations.Predicate.TheVariants as asks
use Rattle.dialects_int.specs.declared.operations.Rule.{Rule}
use Rattle.dialects_int.specs.declared.operations.Rule.TheVariants as rule
use Rattle.dialects_int.specs.Folds.{Known, requested, fold_by, fold_of, is_property, kind_of, predicates, property_of, rule_of, rules, with}
use Rattle.patterns_laws.specs.Words.{named}
use Rattle.patterns_laws.proofs.KnownFolds.{given_some, given_at}
use Rattle.user_patterns_check.specs.Outcomes.{Outcome, compare_outcome, given, pair_outcome, resize_outcome, select_outcome, step_of}
use Rattle.user_patterns_data.specs.declared.pattern.Expression.{Expression}
use Rattle.user_patterns_data.specs.declared.pattern.Expression.TheVariants as form
use Rattle.user_patterns_data.specs.Fitting.{form_step, kind_at}
use Rattle.user_patterns_data.specs.Names.{name_of, operands_of, predicate_number, predicate_of}
use Rattle.user_patterns_data.specs.Matching.{Header, BoundValues, defining_op_head, known, predicate_is, when}
use Rattle.user_patterns_data.specs.Planning.{bound_type}
use Rattle.user_patterns_data.proofs.Named.{names_fold}
use Rattle.user_patterns_build.specs.CanBuild.{has_name}
use Rattle.user_patterns_apply.proofs.FoundBuilt.{when_is}
use Rattle.patterns_refinement.proofs.Flags.{broken_flagged}
use Rattle.patterns_refinement.specs.Meaning.{Assignment, is_arithmetic, makes, makes_by, of_one, of_three, of_two, owner, result_kind, Obeys}
use Rattle.patterns_refinement.specs.Applied.{AreDone, AreUnbroken}
use Rattle.patterns_refinement.proofs.BoundValues.{stands_standing, Stands}
use Rattle.patterns_refinement.proofs.Trees.{FoundFit}

-- ---- the environment has the outcomes of the operands at their places
abbrev pub AllShow : Assignment → List Outcome → List ℕ → List Value → Type 0
AllShow a env [] [] = Unit {0}
AllShow a env [] (v ∷ vs) = ⊥
AllShow a env (k ∷ ks) [] = ⊥
AllShow a env (k ∷ ks) (v ∷ vs) = (slice_get env k ≡ Some (a v)) × AllShow a env ks vs

module _ (a : Assignment) (env : List Outcome) where
  one_shown : (f : Outcome → Option Outcome) (i : ℕ) (vs : List Value) → AllShow a env (i ∷ []) vs → of_one f (map a vs) ≡ given (slice_get env i) f
  one_shown f i [] s = absurd s
  one_shown f i (v ∷ []) s = sym (given_at (slice_get env i) (a v) f (f (a v)) s.0 refl)
  one_shown f i (v ∷ w ∷ vs) s = absurd s.1

  two_shown : (f : Outcome → Outcome → Option Outcome) (i j : ℕ) (vs : List Value) → AllShow a env (i ∷ j ∷ []) vs → of_two f (map a vs) ≡ given (slice_get env i) (λ x. given (slice_get env j) (λ y. f x y))
  two_shown f i j [] s = absurd s
  two_shown f i j (v ∷ []) s = absurd s.1
  two_shown f i j (v ∷ w ∷ []) s =
      sym (given_at (slice_get env i) (a v) (λ x. given (slice_get env j) (λ y. f x y)) (f (a v) (a w)) s.0 (given_at (slice_get env j) (a w) (λ y. f (a v) y) (f (a v) (a w)) s.1.0 refl))
  two_shown f i j (v ∷ w ∷ z ∷ vs) s = absurd s.1.1

  three_shown : (f : Outcome → Outcome → Outcome → Option Outcome) (c i j : ℕ) (vs : List Value) → AllShow a env (c ∷ i ∷ j ∷ []) vs
      → of_three f (map a vs) ≡ given (slice_get env c) (λ b. given (slice_get env i) (λ x. given (slice_get env j) (λ y. f b x y)))
  three_shown f c i j [] s = absurd s
  three_shown f c i j (u ∷ []) s = absurd s.1
  three_shown f c i j (u ∷ v ∷ []) s = absurd s.1.1
  three_shown f c i j (u ∷ v ∷ w ∷ []) s =
      sym (given_at (slice_get env c) (a u) (λ b. given (slice_get env i) (λ x. given (slice_get env j) (λ y. f b x y))) (f (a u) (a v) (a w)) s.0
      (given_at (slice_get env i) (a v) (λ x. given (slice_get env j) (λ y. f (a u) x y)) (f (a u) (a v) (a w)) s.1.0
      (given_at (slice_get env j) (a w) (λ y. f (a u) (a v) y) (f (a u) (a v) (a w)) s.1.1.0 refl)))
  three_shown f c i j (u ∷ v ∷ w ∷ z ∷ vs) s = absurd s.1.1.1

-- ---- rules and predicates
abbrev pub rule_for : Expression → Rule
rule_for (form.Binary o i j) = rule.Binary o
rule_for (form.Compare p i j) = rule.Compare
rule_for (form.Select c i j) = rule.Select
rule_for (form.IntegerCast c i) = rule.IntegerCast c
rule_for (form.IndexCast c i) = rule.IndexCast c

pub form_rule : (f : Expression) → has_name f ≡ true → rule_of (name_of f) ≡ Some (rule_for f)
form_rule (form.Binary o i j) e = names_fold.0 o
form_rule (form.Compare p i j) e = names_fold.4
form_rule (form.Select c i j) e = names_fold.5
form_rule (form.IntegerCast c i) e = names_fold.1 c
form_rule (form.IndexCast cast.ExtendSigned i) e = names_fold.2
form_rule (form.IndexCast cast.ExtendUnsigned i) e = names_fold.3
form_rule (form.IndexCast cast.Truncate i) e = absurd (true≢false (sym e))

pub named_is : (word name : List ℕ) → named word name ≡ true → name ≡ word
named_is word name e = (bytes_eq-Decides name word).0 e

-- an operation has the predicate of a form
abbrev pub Asks : Expression → List (List ℕ × AttrTerm) → Type 0
Asks (form.Compare p i j) props = requested (property_of (codes "predicate") props) ≡ Some p
Asks _ props = Unit {0}

predicate_there : (p : Predicate) → slice_get predicates (predicate_number p) ≡ Some p
unfolding predicates
predicate_there asks.Equal = refl
predicate_there asks.NotEqual = refl
predicate_there asks.SignedLess = refl
predicate_there asks.SignedLessOrEqual = refl
predicate_there asks.SignedGreater = refl
predicate_there asks.SignedGreaterOrEqual = refl
predicate_there asks.UnsignedLess = refl
predicate_there asks.UnsignedLessOrEqual = refl
predicate_there asks.UnsignedGreater = refl
predicate_there asks.UnsignedGreaterOrEqual = refl

pub requested_at : (p : Predicate) (i : TypeTerm × ℕ) → i.1 ≡ predicate_number p → requested (Some i) ≡ Some p
requested_at p i e = ap (λ n. slice_get predicates n) e ∙ predicate_there p

module _ (t : Operation) (verified : Header → Bool) where
  predicate_requested : (p : Predicate) (o : Option (TypeTerm × ℕ)) → predicate_is t verified (Some (predicate_number p)) o ≡ true → requested o ≡ Some p
  predicate_requested p None e = absurd (true≢false (sym e))
  predicate_requested p (Some i) e = requested_at p i (eqb-true i.1 (predicate_number p) e)

  pub form_asks : (f : Expression) (props : List (List ℕ × AttrTerm)) → predicate_is t verified (predicate_of f) (property_of (codes "predicate") props) ≡ true → Asks f props
  form_asks (form.Binary o i j) props e = tt
  form_asks (form.Compare p i j) props e = predicate_requested p (property_of (codes "predicate") props) e
  form_asks (form.Select c i j) props e = tt
  form_asks (form.IntegerCast c i) props e = tt
  form_asks (form.IndexCast c i) props e = tt

-- ---- an operation computes the outcome of its step
pub makes_is : (h : Header) (xs : List Outcome) (r : Rule) (k : BitsKind) → rule_of h.name ≡ Some r → result_kind h ≡ Some k → makes h xs ≡ makes_by r h k xs
makes_is h xs r k e g =
    given_at (rule_of h.name) r (λ r. given (result_kind h) (λ k. makes_by r h k xs)) (makes_by r h k xs) e
    (given_at (result_kind h) k (λ k. makes_by r h k xs) (makes_by r h k xs) g refl)

module _ (a : Assignment) (env : List Outcome) (h : Header) (k : BitsKind) (vs : List Value) where
  by_step : (f : Expression) → Asks f h.properties → AllShow a env (operands_of f) vs → makes_by (rule_for f) h k (map a vs) ≡ step_of (form_step k f) env
  by_step (form.Binary o i j) q s = two_shown a env (pair_outcome o) i j vs s
  by_step (form.Compare p i j) q s =
      given_at (requested (property_of (codes "predicate") h.properties)) p (λ p. of_two (compare_outcome p) (map a vs)) (of_two (compare_outcome p) (map a vs)) q refl
      ∙ two_shown a env (compare_outcome p) i j vs s
  by_step (form.Select c i j) q s = three_shown a env select_outcome c i j vs s
  by_step (form.IntegerCast c i) q s = one_shown a env (resize_outcome c k) i vs s
  by_step (form.IndexCast c i) q s = one_shown a env (resize_outcome c k) i vs s

pub form_makes : (a : Assignment) (env : List Outcome) (h : Header) (k : BitsKind) (f : Expression) → has_name f ≡ true → h.name ≡ name_of f → result_kind h ≡ Some k → Asks f h.properties → AllShow a env (operands_of f) h.operands
    → makes h (map a h.operands) ≡ step_of (form_step k f) env
form_makes a env h k f n e g q s =
    makes_is h (map a h.operands) (rule_for f) k (ap rule_of e ∙ form_rule f n) g ∙ by_step a env h k h.operands f q s

-- a fold has the kind of its result
pub fold_kind : (name : List ℕ) (props : List (List ℕ × AttrTerm)) (operands : List (Option Known)) (results : List TypeTerm) (x : Known) → fold_of name props operands results ≡ Some x → given (slice_get results 0) kind_of ≡ Some x.0
unfolding fold_of
fold_kind name props operands [] x e = absurd (none-some x e)
fold_kind name props operands (ty ∷ uy ∷ tys) x e = absurd (none-some x e)
fold_kind name props operands (ty ∷ []) x e = go (list_all (is_property name) props) (rule_of name) (kind_of ty) e
  where
    last : (k : BitsKind) (o : Option ℕ) → option_map (λ bits. (k, bits)) o ≡ Some x → Some k ≡ Some x.0
    last k None e = absurd (none-some x e)
    last k (Some n) e = ap (λ (y : Known). Some y.0) (same_Some _ _ e)

    go : (b : Bool) (r : Option Rule) (k : Option BitsKind) → (if b then with (λ r. with (λ k. option_map (λ bits. (k, bits)) (fold_by r props k operands)) k) r else None) ≡ Some x → k ≡ Some x.0
    go false r k e = absurd (none-some x e)
    go true None k e = absurd (none-some x e)
    go true (Some r) None e = absurd (none-some x e)
    go true (Some r) (Some k) e = last k (fold_by r props k operands) e

pub by_constant : rule_of (codes "arith.constant") ≡ Some rule.Constant
unfolding rule_of rules
by_constant = refl

-- ---- the outcomes of a tree's operations
module _ (t : Operation) (verified : Header → Bool) where
  -- the defining operation of a value
  pub record DefiningOp (v : Value) (h : Header) : Type 0 where
    pub id : ℕ
    pub here : Operation
    pub value : v ≡ Result id 0
    pub found : find id t ≡ Some here
    pub heads : head here ≡ h
    pub passes_verifier : verified h ≡ true

  pub defining_op_of : (v : Value) (h : Header) → defining_op_head t verified v ≡ Some h → DefiningOp v h
  defining_op_of (Result x k) h e =
      let g = given_some (option_map head (find x t)) (λ h. when (verified h && eqb k 0) (Some h)) h e in
      let w = when_is (verified g.0 && eqb k 0) (Some g.0) h g.2 in
      let c = and_parts (verified g.0) (eqb k 0) w.0 in
      let m : (p : Operation) × (find x t ≡ Some p) × (head p ≡ g.0) = map_some head (find x t) g.0 g.1 (λ p is same. (p, is, same)) in
      record {
        id = x;
        here = m.0;
        value = ap (Result x) (eqb-true k 0 c.1);
        found = m.1;
        heads = m.2 ∙ same_Some _ _ w.1;
        passes_verifier = ap verified (sym (same_Some _ _ w.1)) ∙ c.0;
      }
  defining_op_of (Arg x r k) h e = absurd (none-some h e)

  -- the type of its first result
  pub defining_op_type : (v : Value) (h : Header) (ty : TypeTerm) → DefiningOp v h → type_of_value v t ≡ Some ty → slice_get h.results 0 ≡ Some ty
  defining_op_type v h ty g e =
      ap (λ (h : Header). slice_get h.results 0) (sym g.heads) ∙ sym (ap (option_and_then (λ (o : Operation). slice_get (head o).results 0)) g.found) ∙ sym (ap (λ w. type_of_value w t) g.value) ∙ e

  module _ (a : Assignment) where
    -- the outcome of the value is what its defining operation computes
    abbrev pub MakesIt : Value → Header → Type 0
    MakesIt v h = is_arithmetic h ≡ true → makes h (map a h.operands) ≡ Some (a v)

    -- the defining operations of the bound values fit
    abbrev pub FitThere : BoundValues Value → Type 0
    FitThere b = (i : ℕ) (v : Value) (h : Header) → Stands i v b → defining_op_head t verified v ≡ Some h → MakesIt v h

    -- if they are executed
    pub fit_there : (done : ℕ → Bool) → FoundFit a done t → (b : BoundValues Value) → AreDone t verified done b → AreUnbroken t verified a b → FitThere b
    fit_there done fits b are unbroken i v h s e arithmetic =
        let g = defining_op_of v h e in
        let is : done g.id ≡ true = sym (ap (λ w. done (owner w)) g.value) ∙ are i v h (stands_standing i v b s) e in
        elim (subst (λ (h : Header). is_arithmetic h ≡ true → Obeys a g.id h) g.heads (fits g.id g.here g.found is) arithmetic) [
          | inl f ↦ subst (λ w. makes h (map a h.operands) ≡ Some (a w)) (sym g.value) f.0
          | inr f ↦ absurd (true≢false (sym (unbroken i v h (stands_standing i v b s) e (broken_flagged h (map a h.operands) f.0)) ∙ ap is_some (ap a g.value ∙ f.2)))
        ]

    pub made_there : (v : Value) (h : Header) (r : Rule) (k : BitsKind) → MakesIt v h → rule_of h.name ≡ Some r → result_kind h ≡ Some k → makes h (map a h.operands) ≡ Some (a v)
    made_there v h r k fits by is = fits (both (rule_of h.name) (result_kind h) by is)
      where
        both : (o : Option Rule) (q : Option BitsKind) → o ≡ Some r → q ≡ Some k → (is_some o && is_some q) ≡ true
        both None q e f = absurd (none-some r e)
        both (Some o) None e f = absurd (none-some k f)
        both (Some o) (Some q) e f = refl

    -- a verified constant has its number as outcome
    pub constant_there : (v : Value) (x : Known) → ((h : Header) → defining_op_head t verified v ≡ Some h → MakesIt v h) → known t verified v ≡ Some x → a v ≡ Some x
    constant_there v x fits e =
        let g = given_some (defining_op_head t verified v) (λ h. when (named (codes "arith.constant") h.name) (fold_of h.name h.properties [] h.results)) x e in
        let w = when_is (named (codes "arith.constant") g.0.name) (fold_of g.0.name g.0.properties [] g.0.results) x g.2 in
        let by = ap rule_of (named_is (codes "arith.constant") g.0.name w.0) ∙ by_constant in
        let is = fold_kind g.0.name g.0.properties [] g.0.results x w.1 in
        same_Some _ _ (sym (made_there v g.0 rule.Constant x.0 (fits g.0 g.1) by is) ∙ makes_is g.0 (map a g.0.operands) rule.Constant x.0 by is
        ∙ given_at (fold_of g.0.name g.0.properties [] g.0.results) x (λ x. Some (Some x)) (Some (Some x)) w.1 refl)

-- ---- kinds of types
pub kind_is : (ts : BoundValues TypeTerm) (ty : ℕ) (term : TypeTerm) (k : BitsKind) → Stands ty term ts → kind_of term ≡ Some k → kind_at (map bound_type ts) ty ≡ k
kind_is ts ty term k s e = get_or_from_slice_get (map bound_type ts) ty (bound_type (Some term)) (kind.Int 0) (slice_get-map bound_type ts ty ∙ ap (option_map bound_type) s) ∙ stands_as
  where
    stands_as : bound_type (Some term) ≡ k
    stands_as = rw e refl
