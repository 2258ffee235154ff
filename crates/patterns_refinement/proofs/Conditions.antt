-- The rule that replaces a `select` of true and false by its condition keeps modules ready and refines what they
-- compute.
use Rattle.std.proofs.Common.{◌≡◌, ℕ, ◌<◌, ◌^◌, refl, ap, sym, ◌∙◌, subst, map, Bool, true, false, ◌&&◌, eqb, eqb-true, Some, None, slice_get, arith}
use Rattle.std.specs.Prelude.{codes, ◌==◌, if◌then◌else◌}
use Rattle.std.proofs.lemmas.Bool.{and_parts}
use Rattle.std.proofs.lemmas.Bool.Decides.{nat_tests}
use Rattle.std.proofs.lemmas.Option.{same_Some}
use Rattle.ir_types.specs.declared.bits.BitsKind.TheVariants as kind
use Rattle.ir_types.specs.Bits.{width_of}
use Rattle.ir_types.specs.SameTypes.{same_type}
use Rattle.ir_types.proofs.SameTerms.{type_is}
use Rattle.ir_tree.specs.Tree.{head}
use Rattle.dialects_int.specs.declared.operations.Rule.TheVariants as how
use Rattle.dialects_int.specs.Arithmetic.{choice_of}
use Rattle.dialects_int.specs.Folds.{Known, kind_of, rule_of}
use Rattle.user_patterns_check.specs.Outcomes.{Outcome, given}
use Rattle.user_patterns_check.specs.Checks.{refines}
use Rattle.user_patterns_check.proofs.Keeping.{same_kinds}
use Rattle.patterns_laws.specs.Made.{i1}
use Rattle.patterns_laws.specs.Words.{named}
use Rattle.patterns_laws.proofs.KnownFolds.{below}
use Rattle.patterns_base.specs.declared.rule.Rule.TheVariants.{ChooseTruth}
use Rattle.patterns_base.specs.Looks.{is_number, known, when}
use Rattle.patterns_base.specs.Makes.{give}
use Rattle.patterns_base.specs.Rules.{rule}
use Rattle.patterns_base.proofs.Facts.{when_some}
use Rattle.patterns_soundness.specs.Accepted.{AreAccepted}
use Rattle.patterns_soundness.proofs.Shapes.{three_is}
use Rattle.patterns_refinement.specs.Better.{is_kind, kind_in, takes}
use Rattle.patterns_refinement.specs.Keeping.{KeepsComputing, KeepsReady}
use Rattle.patterns_refinement.proofs.Dropping.{Keeps, choice_refined, kind_by, known_is, known_test, of_three_is, old_improves}
use Rattle.patterns_refinement.proofs.Firsts.{by_select}
use Rattle.patterns_refinement.proofs.Forms.{named_is}
use Rattle.patterns_refinement.proofs.Monotone.{same_refined}
use Rattle.patterns_refinement.proofs.Ruled.{of_rule, ruled, site_of, value_bits, root_has}
use Rattle.patterns_refinement.proofs.StaysReady.{GivesOld, keeps_computing, old_ready}

-- ---- the condition equals the selected value
number_refined : (o : Outcome) (c : Known) → ((y : Known) → o ≡ Some y → y ≡ c) → refines o (Some c) ≡ true
number_refined None c f = refl
number_refined (Some y) c f = same_refined (Some y) (Some c) (ap (λ y. Some y) (f y refl))

one_or_zero : (n : ℕ) → n < 2 → (n == 0) ≡ false → n ≡ 1
one_or_zero n l e = grind (arith, nat_tests)

same_known_pair : (y c : Known) → y.0 ≡ c.0 → y.1 ≡ c.1 → y ≡ c
same_known_pair y c e f = λ i. (e i, f i)

condition_chosen : (c : Known) (p q : Outcome) → c.0 ≡ kind.Int 1 → c.1 < 2 → ((y : Known) → p ≡ Some y → (y.0 ≡ kind.Int 1) × (y.1 ≡ 1)) → ((y : Known) → q ≡ Some y → (y.0 ≡ kind.Int 1) × (y.1 ≡ 0)) → refines (choice_of c.1 p q) (Some c) ≡ true
condition_chosen c p q k l f g = go (c.1 == 0) refl
  where
    go : (b : Bool) → (c.1 == 0) ≡ b → refines (if b then q else p) (Some c) ≡ true
    go true e = number_refined q c (λ y i. let h = g y i in same_known_pair y c (h.0 ∙ sym k) (h.1 ∙ sym (eqb-true c.1 0 e)))
    go false e = number_refined p c (λ y i. let h = f y i in same_known_pair y c (h.0 ∙ sym k) (h.1 ∙ sym (one_or_zero c.1 l e)))

choose_truth_gives : GivesOld ChooseTruth
unfolding rule
choose_truth_gives t n insertion o es e =
    let w = three_is (head o) (λ p. when (named (codes "arith.select") p.name) (when (same_type p.ty i1 && (is_number t 1 p.second && is_number t 0 p.third)) (Some (give (head o).id p.first)))) es e in
    let g = when_some (named (codes "arith.select") (head o).name) (when (same_type w.ty i1 && (is_number t 1 w.second && is_number t 0 w.third)) (Some (give (head o).id w.first))) es w.makes in
    let h = when_some (same_type w.ty i1 && (is_number t 1 w.second && is_number t 0 w.third)) (Some (give (head o).id w.first)) es g.1 in
    (w.first, same_Some _ _ h.1)

module _ (accepted : AreAccepted) where
  choose_truth_keeps : Keeps ChooseTruth
  unfolding rule
  choose_truth_keeps m n x a done wellformed sorted kinded after computing e =
      let q = ruled accepted ChooseTruth m n x wellformed sorted e in
      let w = three_is (head q.here) (λ p. when (named (codes "arith.select") p.name) (when (same_type p.ty i1 && (is_number m.tree 1 p.second && is_number m.tree 0 p.third)) (Some (give (head q.here).id p.first)))) q.edits q.made in
      let g = when_some (named (codes "arith.select") (head q.here).name) (when (same_type w.ty i1 && (is_number m.tree 1 w.second && is_number m.tree 0 w.third)) (Some (give (head q.here).id w.first))) q.edits w.makes in
      let h = when_some (same_type w.ty i1 && (is_number m.tree 1 w.second && is_number m.tree 0 w.third)) (Some (give (head q.here).id w.first)) q.edits g.1 in
      let tests = and_parts (same_type w.ty i1) (is_number m.tree 1 w.second && is_number m.tree 0 w.third) h.0 in
      let numbers = and_parts (is_number m.tree 1 w.second) (is_number m.tree 0 w.third) tests.1 in
      let one = known_test (λ k. eqb k.1 1) (known m.tree w.second) numbers.0 in
      let zero = known_test (λ k. eqb k.1 0) (known m.tree w.third) numbers.1 in
      let name = ap rule_of (named_is (codes "arith.select") (head q.here).name g.0) ∙ by_select in
      let s = site_of m a done x q.here wellformed kinded computing q.found (root_has q wellformed kinded refl) in
      let three = of_three_is m a done x q.here s w.first w.second w.third w.operands in
      let of = of_rule m a done x q.here s how.Select name in
      let truths : of.kind ≡ kind.Int 1 = same_Some _ _ (sym of.is ∙ ap (λ tys. given (slice_get tys 0) kind_of) w.results ∙ ap kind_of (type_is w.ty i1 tests.0)) in
      let all = and_parts (is_kind (kind.Int 1) (kind_in m.tree w.first)) (is_kind of.kind (kind_in m.tree w.second) && is_kind of.kind (kind_in m.tree w.third)) (subst (λ vs. takes how.Select (head q.here) of.kind (map (kind_in m.tree) vs) ≡ true) w.operands of.operands) in
      let both = and_parts (is_kind of.kind (kind_in m.tree w.second)) (is_kind of.kind (kind_in m.tree w.third)) all.1 in
      old_improves ChooseTruth m n x a done wellformed after computing q (q.numeric refl) w.first s (record {
        edits = same_Some _ _ h.1;
        value = three.first;
        better = λ d.
            choice_refined m a done x q.here s w.first w.second w.third (a w.first) name w.operands d
            (λ c e i.
            let k = same_kinds c.0 (kind.Int 1) i in
            subst (λ o. refines (choice_of c.1 (a w.second) (a w.third)) o ≡ true) (sym e)
            (condition_chosen c (a w.second) (a w.third) k (subst (λ k. c.1 < 2 ^ width_of k) k (below c.0 c.1 (value_bits m a done x q.here s w.first three.first c e)))
            (λ y j. (kind_by m a done x q.here s w.second of.kind y both.0 j ∙ truths, ap (λ (w : Known). w.1) (sym (known_is m a done wellformed kinded computing w.second one.0 y three.second (three.second_there d) one.1 j)) ∙ eqb-true one.0.1 1 one.2))
            (λ y j. (kind_by m a done x q.here s w.third of.kind y both.1 j ∙ truths, ap (λ (w : Known). w.1) (sym (known_is m a done wellformed kinded computing w.third zero.0 y three.third (three.third_there d) zero.1 j)) ∙ eqb-true zero.0.1 0 zero.2))));
        there = three.first_there;
      })

  pub choose_truth_is : KeepsReady ChooseTruth × KeepsComputing ChooseTruth
  choose_truth_is = let r = old_ready accepted ChooseTruth choose_truth_gives in (r, keeps_computing ChooseTruth r choose_truth_keeps)
