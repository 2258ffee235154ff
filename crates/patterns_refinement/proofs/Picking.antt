-- The rules on a `select` of one value, and by a known condition, refine what was computed: also a `select` of memrefs or
-- tensors.
use Rattle.std.proofs.Common.{◌≡◌, ℕ, refl, ap, sym, ◌∙◌, subst, List, [], ◌∷◌, map, Bool, true, false, true≢false, ◌&&◌, not, Option, Some, None, ◌⊎◌, inl, inr, slice_get}
use Rattle.std.specs.Prelude.{codes, if◌then◌else◌, is_some, option_and_then, ◌==◌}
use Rattle.std.specs.List.{list_all}
use Rattle.std.proofs.lemmas.Bool.{and_parts}
use Rattle.std.proofs.lemmas.Option.{none-some, same_Some}
use Rattle.ir_types.specs.Terms.{TypeTerm}
use Rattle.ir_types.specs.Words.{is_isolated}
use Rattle.ir_types.specs.declared.bits.BitsKind.{BitsKind}
use Rattle.ir_types.specs.declared.bits.BitsKind.TheVariants as kind
use Rattle.ir_tree.specs.declared.value.Value.{Value}
use Rattle.ir_tree.specs.declared.value.Value.TheVariants.{Result}
use Rattle.ir_tree.specs.Tree.{head}
use Rattle.ir_tree.specs.Ids.{find}
use Rattle.ir_tree.specs.Meaning.{Operation}
use Rattle.ir_tree.specs.Uses.{same_value}
use Rattle.ir_tree.specs.WellFormed.{IsWellFormed}
use Rattle.ir_tree.proofs.Replaced.{same_value_true}
use Rattle.ir_tree_laws.specs.Values.{has_value, type_of_value}
use Rattle.ir_tree_laws.proofs.Reasoned.{some_there}
use Rattle.ir_event.specs.Modules.{Module}
use Rattle.dialects_int.specs.declared.operations.Rule.TheVariants as how
use Rattle.dialects_int.specs.Arithmetic.{choice_of}
use Rattle.dialects_int.specs.Folds.{Known, kind_of, rule_of}
use Rattle.rewriter_machine.specs.Contents.{all_edited}
use Rattle.user_patterns_check.specs.Checks.{refines}
use Rattle.user_patterns_check.specs.Outcomes.{Outcome, given}
use Rattle.patterns_laws.specs.Words.{named}
use Rattle.patterns_laws.proofs.KnownFolds.{given_some}
use Rattle.patterns_base.specs.declared.rule.Rule.{Rule}
use Rattle.patterns_base.specs.declared.rule.Rule.TheVariants.{ChooseKnown, ChooseSame}
use Rattle.patterns_base.specs.Lists.{Free}
use Rattle.patterns_base.specs.Looks.{is_verified, known, when}
use Rattle.patterns_base.specs.Makes.{give}
use Rattle.patterns_base.specs.Rules.{rule}
use Rattle.patterns_base.proofs.Facts.{when_some}
use Rattle.patterns_soundness.specs.Accepted.{AreAccepted}
use Rattle.patterns_soundness.proofs.Shapes.{three_is}
use Rattle.patterns_refinement.specs.Meaning.{Assignment, IsOfType, result_kind}
use Rattle.patterns_refinement.specs.After.{rewritten}
use Rattle.patterns_refinement.specs.Better.{AreKinded, kind_in}
use Rattle.patterns_refinement.specs.Choices.{AreOrigins, Chooses, Chosen, IsStill, Origins, has_condition, is_choice, is_select}
use Rattle.patterns_refinement.specs.Keeping.{Computing, Improves, IsFed, done_after, is_there}
use Rattle.patterns_refinement.proofs.Dropping.{Keeps, choice_refined, chosen_better, chosen_is, known_is, old_improves, one_of}
use Rattle.patterns_refinement.proofs.EditsForm.{replaced_parts}
use Rattle.patterns_refinement.proofs.Firsts.{by_select}
use Rattle.patterns_refinement.proofs.Forms.{named_is}
use Rattle.patterns_refinement.proofs.Giving.{after_old, old_given, replaced_improves}
use Rattle.patterns_refinement.proofs.Monotone.{itself}
use Rattle.patterns_refinement.proofs.Origins.{Replaces, kinds_themselves, rewritten_kinds, still_has_kind}
use Rattle.patterns_refinement.proofs.Ruled.{Ruled, ruled, site_of}
use Rattle.patterns_refinement.proofs.Sources.{kind_test}
use Rattle.patterns_refinement.proofs.StaysReady.{same_types}
use Rattle.patterns_refinement.proofs.Trees.{each_found, types_found, value_below}
use Rattle.patterns_refinement.proofs.Unmissed.{select_unmissed}
use Rattle.patterns_refinement.proofs.Verified.{asks_kind, is_by_truth, verified_by_truth}
use Rattle.patterns_refinement.proofs.Wellformed.{is_below, operands_stand}

-- ---- choices
pub kind_cases : (k : Option BitsKind) → (k ≡ None) ⊎ (is_some k ≡ true)
kind_cases None = inl refl
kind_cases (Some k) = inr refl

-- a value of a type without a kind has no number
no_number : (ty : TypeTerm) (o : Outcome) → kind_of ty ≡ None → IsOfType ty o → o ≡ None
no_number ty None e of = refl
no_number ty (Some y) e of = absurd (none-some y.0 (sym e ∙ of.0))

-- an i1 has a kind
truth_has_kind : (js : List (Option BitsKind)) → is_by_truth js ≡ true → has_condition js ≡ true
truth_has_kind [] e = absurd (true≢false (sym e))
truth_has_kind (c ∷ js) e = ap is_some (kind_test (kind.Int 1) c e)

-- a verified `select` whose result has no kind is a choice
pub choice_is : {r : Rule} {m n : Module} {x : ℕ} → (q : Ruled r m n x) → IsWellFormed is_isolated m → is_verified m.tree (head q.here) ≡ true → rule_of (head q.here).name ≡ Some how.Select → result_kind (head q.here) ≡ None → is_choice m.tree (head q.here) ≡ true
choice_is {r} {m} {n} {x} q wellformed verified name none =
    let truth = verified_by_truth m.tree q.here wellformed.distinct (ap (λ y. find y m.tree) q.id ∙ q.found) verified name in
    (λ i. is_select (name i) && (not (is_some (none i)) && truth_has_kind (map (kind_in m.tree) (head q.here).operands) truth i))

-- ---- a chosen value replaces the result
pub record Picked (r : Rule) (m n : Module) (x : ℕ) (q : Ruled r m n x) (a : Assignment) (done : ℕ → Bool) : Type 0 where
  pub condition : Value
  pub first : Value
  pub second : Value
  pub operands : (head q.here).operands ≡ condition ∷ first ∷ second ∷ []
  pub name : rule_of (head q.here).name ≡ Some how.Select
  pub value : Value
  pub edits : give (head q.here).id value ≡ q.edits
  pub within : has_value value m.tree ≡ true
  pub there : done x ≡ true → is_there done value ≡ true
  pub picks : (k : Known) → done x ≡ true → a condition ≡ Some k → choice_of k.1 first second ≡ value

module _ (r : Rule) (m n : Module) (x : ℕ) (a : Assignment) (done : ℕ → Bool) (wellformed : IsWellFormed is_isolated m) (kinded : AreKinded n.tree) (computing : Computing a done m.tree) (q : Ruled r m n x) (verified : is_verified m.tree (head q.here) ≡ true)
    (k : Picked r m n x q a done) (none : result_kind (head q.here) ≡ None) where
  these : q.edits ≡ give x k.value
  these = sym k.edits ∙ ap (λ y. give y k.value) q.id

  free : Free (give x k.value) m
  free = subst (λ es. Free es m) these q.free

  same : type_of_value (Result x 0) m.tree ≡ type_of_value k.value m.tree
  same = let p = replaced_parts (Result x 0) k.value m free.0 in same_types (type_of_value (Result x 0) m.tree) (type_of_value k.value m.tree) p.0 p.1 p.2

  own_kind : kind_in m.tree (Result x 0) ≡ None
  own_kind = ap (λ q. given (option_and_then (λ (o : Operation). slice_get (head o).results 0) q) kind_of) q.found ∙ none

  no_outcome : a (Result x 0) ≡ None
  no_outcome =
      let p = replaced_parts (Result x 0) k.value m free.0 in
      let ty = some_there (type_of_value (Result x 0) m.tree) p.0 in
      no_number ty.0 (a (Result x 0)) (sym (ap (λ o. given o kind_of) ty.1) ∙ own_kind) (types_found a m.tree computing.typed (Result x 0) ty.0 ty.1)

  picked_origin : (o : Origins) → AreOrigins m.next a o (done_after m.next x done) m.tree → IsStill (o (Result x 0)) (o k.value)
  picked_origin o are = go (o (Result x 0)) refl
    where
      go : (p : Option Value) → o (Result x 0) ≡ p → IsStill p (o k.value)
      go None e = tt
      go (Some y) e =
          let later = done_after m.next x done in
          let f = each_found (Chooses a o later m.tree) x m.tree are.chosen q.here q.found in
          let g = f.0 (choice_is q wellformed verified k.name none) y (ap (λ z. o (Result z 0)) f.1 ∙ e) in
          let c : Chosen a o y (k.condition ∷ k.first ∷ k.second ∷ []) = subst (Chosen a o y) k.operands g.1 in
          let d : done x ≡ true = sym (after_old m.next x done x q.within) ∙ ap later (sym f.1) ∙ g.0 in
          ap o (sym (k.picks c.0 d c.1)) ∙ c.2

  picked_replaces : Replaces m.next x k.value m.tree (rewritten q.insertion m.next [] x k.value m.tree) a (done_after m.next x done)
  picked_replaces =
      let below = is_below m.next m.tree wellformed.below in
      let u = rewritten q.insertion m.next [] x k.value m.tree in
      let value_kinds = rewritten_kinds m.next m.tree x k.value q.insertion [] tt (kinds_themselves m.next m.tree wellformed.distinct below) in
      record {
        kind = λ e. ap (λ o. is_some (given o kind_of)) same ∙ still_has_kind m.next m.tree u value_kinds k.value (value_below m.next m.tree below k.value k.within) e;
        origin = picked_origin;
      }

  pub picked_improves : Improves a done m (done_after m.next x done) n.tree
  picked_improves =
      replaced_improves m n x a done q.insertion [] k.value wellformed q.within (inr (q.here, q.found, select_unmissed q.here k.name)) picked_replaces computing kinded
      (old_given a m.next x done k.value (value_below m.next m.tree (is_below m.next m.tree wellformed.below) k.value k.within) (λ d. ap (λ o. refines o (a k.value)) no_outcome) k.there)
      free (subst (λ es. all_edited es m ≡ n) these q.module_is)

-- ---- the operands
pub record OfThree (m : Module) (done : ℕ → Bool) (x : ℕ) (c u v : Value) : Type 0 where
  pub first : has_value c m.tree ≡ true
  pub second : has_value u m.tree ≡ true
  pub third : has_value v m.tree ≡ true
  pub there : done x ≡ true → (is_there done c ≡ true) × (is_there done u ≡ true) × (is_there done v ≡ true)

three_parts : (f : Value → Bool) (c u v : Value) → list_all f (c ∷ u ∷ v ∷ []) ≡ true → (f c ≡ true) × (f u ≡ true) × (f v ≡ true)
three_parts f c u v e =
    let g = and_parts (f c) (list_all f (u ∷ v ∷ [])) e in
    let h = and_parts (f u) (list_all f (v ∷ [])) g.1 in
    (g.0, h.0, (and_parts (f v) true h.1).0)

pub three_of : {r : Rule} {m n : Module} {x : ℕ} → (q : Ruled r m n x) (a : Assignment) (done : ℕ → Bool) → IsWellFormed is_isolated m → Computing a done m.tree → (c u v : Value) → (head q.here).operands ≡ c ∷ u ∷ v ∷ [] → OfThree m done x c u v
three_of {r} {m} {n} {x} q a done wellformed computing c u v e =
    let values = (each_found (λ h. list_all (λ v. has_value v m.tree) h.operands ≡ true) x m.tree (operands_stand is_isolated m.tree wellformed.distinct wellformed.wellformed.visible) q.here q.found).0 in
    let h = three_parts (λ v. has_value v m.tree) c u v (subst (λ vs. list_all (λ v. has_value v m.tree) vs ≡ true) e values) in
    let fed = each_found (IsFed done) x m.tree computing.fed q.here q.found in
    record {
      first = h.0;
      second = h.1;
      third = h.2;
      there = λ d. three_parts (is_there done) c u v (subst (λ vs. list_all (is_there done) vs ≡ true) e (fed.0 (ap done fed.1 ∙ d)));
    }

chosen_same : (c : ℕ) (u v : Value) → u ≡ v → choice_of c u v ≡ u
chosen_same c u v e = go (c == 0)
  where
    go : (b : Bool) → (if b then v else u) ≡ u
    go true = sym e
    go false = refl

-- ---- the rules
module _ (accepted : AreAccepted) where
  pub choose_same_keeps : Keeps ChooseSame
  unfolding rule
  choose_same_keeps m n x a done wellformed sorted kinded after computing e =
      let q = ruled accepted ChooseSame m n x wellformed sorted e in
      let w = three_is (head q.here) (λ p. when (named (codes "arith.select") p.name) (when (same_value p.second p.third) (Some (give (head q.here).id p.second)))) q.edits q.made in
      let g = when_some (named (codes "arith.select") (head q.here).name) (when (same_value w.second w.third) (Some (give (head q.here).id w.second))) q.edits w.makes in
      let h = when_some (same_value w.second w.third) (Some (give (head q.here).id w.second)) q.edits g.1 in
      let name = ap rule_of (named_is (codes "arith.select") (head q.here).name g.0) ∙ by_select in
      let three = three_of q a done wellformed computing w.first w.second w.third w.operands in
      elim (kind_cases (result_kind (head q.here))) [
        | inl none ↦ picked_improves ChooseSame m n x a done wellformed after computing q (q.verified refl)
            (record {
              condition = w.first;
              first = w.second;
              second = w.third;
              operands = w.operands;
              name = name;
              value = w.second;
              edits = same_Some _ _ h.1;
              within = three.second;
              there = λ d. (three.there d).1;
              picks = λ k d e. chosen_same k.1 w.second w.third (same_value_true w.second w.third h.0);
            }) none
        | inr some ↦
            let s = site_of m a done x q.here wellformed kinded computing q.found (λ asks. some) in
            old_improves ChooseSame m n x a done wellformed after computing q (ap asks_kind name) w.second s (record {
              edits = same_Some _ _ h.1;
              value = three.second;
              better = λ d.
                  choice_refined m a done x q.here s w.first w.second w.third (a w.second) name w.operands d
                  (λ k e i. chosen_better k.1 (a w.second) (a w.third) (a w.second) (itself (a w.second)) (subst (λ v. refines (a v) (a w.second) ≡ true) (same_value_true w.second w.third h.0) (itself (a w.second))));
              there = λ d. (three.there d).1;
            })
      ]

  pub choose_known_keeps : Keeps ChooseKnown
  unfolding rule
  choose_known_keeps m n x a done wellformed sorted kinded after computing e =
      let q = ruled accepted ChooseKnown m n x wellformed sorted e in
      let w = three_is (head q.here) (λ p. when (named (codes "arith.select") p.name) (given (known m.tree p.first) (λ c. Some (give (head q.here).id (choice_of c.1 p.second p.third))))) q.edits q.made in
      let g = when_some (named (codes "arith.select") (head q.here).name) (given (known m.tree w.first) (λ c. Some (give (head q.here).id (choice_of c.1 w.second w.third)))) q.edits w.makes in
      let k = given_some (known m.tree w.first) (λ c. Some (give (head q.here).id (choice_of c.1 w.second w.third))) q.edits g.1 in
      let name = ap rule_of (named_is (codes "arith.select") (head q.here).name g.0) ∙ by_select in
      let three = three_of q a done wellformed computing w.first w.second w.third w.operands in
      elim (kind_cases (result_kind (head q.here))) [
        | inl none ↦ picked_improves ChooseKnown m n x a done wellformed after computing q (q.verified refl)
            (record {
              condition = w.first;
              first = w.second;
              second = w.third;
              operands = w.operands;
              name = name;
              value = choice_of k.0.1 w.second w.third;
              edits = same_Some _ _ k.2;
              within = one_of (λ v. has_value v m.tree ≡ true) k.0.1 w.second w.third three.second three.third;
              there = λ d. one_of (λ v. is_there done v ≡ true) k.0.1 w.second w.third (three.there d).1 (three.there d).2;
              picks = λ c d e. ap (λ (y : Known). choice_of y.1 w.second w.third) (sym (known_is m a done wellformed kinded computing w.first k.0 c three.first (three.there d).0 k.1 e));
            }) none
        | inr some ↦
            let s = site_of m a done x q.here wellformed kinded computing q.found (λ asks. some) in
            old_improves ChooseKnown m n x a done wellformed after computing q (ap asks_kind name) (choice_of k.0.1 w.second w.third) s (record {
              edits = same_Some _ _ k.2;
              value = one_of (λ v. has_value v m.tree ≡ true) k.0.1 w.second w.third three.second three.third;
              better = λ d.
                  choice_refined m a done x q.here s w.first w.second w.third (a (choice_of k.0.1 w.second w.third)) name w.operands d
                  (λ c e i.
                  let same = known_is m a done wellformed kinded computing w.first k.0 c three.first (three.there d).0 k.1 e in
                  subst (λ (c : Known). refines (choice_of c.1 (a w.second) (a w.third)) (a (choice_of k.0.1 w.second w.third)) ≡ true) same (chosen_is a k.0.1 w.second w.third));
              there = λ d. one_of (λ v. is_there done v ≡ true) k.0.1 w.second w.third (three.there d).1 (three.there d).2;
            })
      ]
