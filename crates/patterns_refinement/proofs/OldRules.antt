-- The rules that replace a result by an existing value keep modules ready and refine what they compute.
use Rattle.std.proofs.Common.{◌≡◌, List, Bool, ◌&&◌, Some}
use Rattle.std.specs.Prelude.{codes}
use Rattle.std.proofs.lemmas.Option.{same_Some}
use Rattle.ir_tree.specs.declared.value.Value.{Value}
use Rattle.ir_tree.specs.Tree.{head}
use Rattle.ir_tree.specs.Uses.{same_value}
use Rattle.ir_tree.specs.Meaning.{Operation}
use Rattle.dialects_int.specs.Arithmetic.{choice_of}
use Rattle.rewriter_machine.specs.Contents.{Edit}
use Rattle.user_patterns_check.specs.Outcomes.{given}
use Rattle.patterns_laws.specs.Words.{among, with_one_as_right_identity, with_zero_as_right_identity, idempotent, named}
use Rattle.patterns_laws.proofs.KnownFolds.{given_some}
use Rattle.patterns_base.specs.declared.rule.Rule.TheVariants.{ChooseKnown, ChooseSame, DropAllOnes, DropOne, DropZero, KeepItself}
use Rattle.patterns_base.specs.Looks.{Two, is_number, known, passes, two, when}
use Rattle.patterns_base.specs.Folding.{is_all_ones}
use Rattle.patterns_base.specs.Makes.{give}
use Rattle.patterns_base.specs.Rules.{rule}
use Rattle.patterns_base.proofs.Facts.{when_some}
use Rattle.patterns_soundness.proofs.Shapes.{three_is, two_is}
use Rattle.patterns_soundness.specs.Accepted.{AreAccepted}
use Rattle.patterns_refinement.specs.Keeping.{KeepsComputing, KeepsReady}
use Rattle.patterns_refinement.proofs.Picking.{choose_known_keeps, choose_same_keeps}
use Rattle.patterns_refinement.proofs.Dropping.{drop_all_ones_keeps, drop_one_keeps, drop_zero_keeps, keep_itself_keeps}
use Rattle.patterns_refinement.proofs.StaysReady.{GivesOld, keeps_computing, old_ready}

-- ---- the value that each rule uses
pair_gives : (t : Operation) (o : Operation) (test : Two → Bool) (es : List Edit) → given (two (head o)) (λ p. when (test p) (Some (give (head o).id p.first))) ≡ Some es → (v : Value) × (give (head o).id v ≡ es)
pair_gives t o test es e =
    let w = two_is (head o) (λ p. when (test p) (Some (give (head o).id p.first))) es e in
    let g = when_some (test (record { name = (head o).name; first = w.first; second = w.second; ty = w.ty })) (Some (give (head o).id w.first)) es w.makes in
    (w.first, same_Some _ _ g.1)

drop_zero_gives : GivesOld DropZero
unfolding rule
drop_zero_gives t n insertion o es e = pair_gives t o (λ p. among with_zero_as_right_identity p.name && is_number t 0 p.second) es e

drop_one_gives : GivesOld DropOne
unfolding rule
drop_one_gives t n insertion o es e = pair_gives t o (λ p. among with_one_as_right_identity p.name && is_number t 1 p.second) es e

drop_all_ones_gives : GivesOld DropAllOnes
unfolding rule
drop_all_ones_gives t n insertion o es e = pair_gives t o (λ p. named (codes "arith.andi") p.name && passes (is_all_ones p.ty) (known t p.second)) es e

keep_itself_gives : GivesOld KeepItself
unfolding rule
keep_itself_gives t n insertion o es e = pair_gives t o (λ p. among idempotent p.name && same_value p.first p.second) es e

choose_same_gives : GivesOld ChooseSame
unfolding rule
choose_same_gives t n insertion o es e =
    let w = three_is (head o) (λ p. when (named (codes "arith.select") p.name) (when (same_value p.second p.third) (Some (give (head o).id p.second)))) es e in
    let g = when_some (named (codes "arith.select") (head o).name) (when (same_value w.second w.third) (Some (give (head o).id w.second))) es w.makes in
    let h = when_some (same_value w.second w.third) (Some (give (head o).id w.second)) es g.1 in
    (w.second, same_Some _ _ h.1)

choose_known_gives : GivesOld ChooseKnown
unfolding rule
choose_known_gives t n insertion o es e =
    let w = three_is (head o) (λ p. when (named (codes "arith.select") p.name) (given (known t p.first) (λ c. Some (give (head o).id (choice_of c.1 p.second p.third))))) es e in
    let g = when_some (named (codes "arith.select") (head o).name) (given (known t w.first) (λ c. Some (give (head o).id (choice_of c.1 w.second w.third)))) es w.makes in
    let k = given_some (known t w.first) (λ c. Some (give (head o).id (choice_of c.1 w.second w.third))) es g.1 in
    (choice_of k.0.1 w.second w.third, same_Some _ _ k.2)

-- ---- the laws
module _ (accepted : AreAccepted) where
  pub drop_zero_is : KeepsReady DropZero × KeepsComputing DropZero
  drop_zero_is = let r = old_ready accepted DropZero drop_zero_gives in (r, keeps_computing DropZero r (drop_zero_keeps accepted))

  pub drop_one_is : KeepsReady DropOne × KeepsComputing DropOne
  drop_one_is = let r = old_ready accepted DropOne drop_one_gives in (r, keeps_computing DropOne r (drop_one_keeps accepted))

  pub drop_all_ones_is : KeepsReady DropAllOnes × KeepsComputing DropAllOnes
  drop_all_ones_is = let r = old_ready accepted DropAllOnes drop_all_ones_gives in (r, keeps_computing DropAllOnes r (drop_all_ones_keeps accepted))

  pub keep_itself_is : KeepsReady KeepItself × KeepsComputing KeepItself
  keep_itself_is = let r = old_ready accepted KeepItself keep_itself_gives in (r, keeps_computing KeepItself r (keep_itself_keeps accepted))

  pub choose_same_is : KeepsReady ChooseSame × KeepsComputing ChooseSame
  choose_same_is = let r = old_ready accepted ChooseSame choose_same_gives in (r, keeps_computing ChooseSame r (choose_same_keeps accepted))

  pub choose_known_is : KeepsReady ChooseKnown × KeepsComputing ChooseKnown
  choose_known_is = let r = old_ready accepted ChooseKnown choose_known_gives in (r, keeps_computing ChooseKnown r (choose_known_keeps accepted))
