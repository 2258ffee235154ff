-- Answers to the rules that don't lower.
use Rattle.std.proofs.Common.{◌≡◌, ◌∙◌, ap, sym, refl, ℕ, List, Bool, true, false, true≢false, Option, Some, option_map}
use Rattle.std.specs.Prelude.{◌||◌, if◌then◌else◌, is_ok, not, Result}
use Rattle.std.specs.Result.{result_err, result_ok}
use Rattle.ir_event.specs.trees.declared.place.Place.{Place}
use Rattle.ir_event.specs.trees.Tree.{head}
use Rattle.ir_event.specs.trees.Ids.{find}
use Rattle.ir_event.specs.trees.Meaning.{Operation}
use Rattle.ir_event.specs.store.Nodes.{Node}
use Rattle.ir_event.specs.declared.world.World.{World}
use Rattle.ir_event.specs.Modules.{module_in}
use Rattle.ir_event.proofs.Facts.{found_id}
use Rattle.patterns_plans.specs.reads.Contents.{Edit}
use Rattle.patterns_plans.specs.reads.Keeps.{given}
use Rattle.patterns_plans.specs.reads.Looks.{Header}
use Rattle.patterns_plans.specs.reads.Reads.{head_at, header_of_node}
use Rattle.patterns_plans.specs.reads.Rule.{Rule}
use Rattle.patterns_plans.specs.reads.Rule.TheVariants as rules
use Rattle.patterns_plans.specs.reads.RuleNames.{is_erasing, is_lowering, same_rule}
use Rattle.patterns_plans.specs.reads.Rules.{rule}
use Rattle.patterns_plans.specs.reads.rules.Opening.{open_branch, open_loop, stop_loop}
use Rattle.patterns_plans.specs.reads.declared.plan.RewritePlan.{RewritePlan}
use Rattle.patterns_plans.specs.declared.reason.Reason.{Reason}
use Rattle.patterns_plans.specs.Conditions.{first_failed_test}
use Rattle.patterns_plans.specs.Planned.{IsAnswerAt, reads_head}
use Rattle.patterns_plans.specs.RuleTests.{asks_block, block_tests, dead_tests, header_tests, tests}
use Rattle.patterns_plans.proofs.Answered.{shown_head}
use Rattle.patterns_regions.specs.Answers.{HasPlanAfter, HasReasonAt}
use Rattle.patterns_regions.specs.RegionRules.{open_branch_at, open_loop_at, stop_loop_at}

-- the rules on branches and loops, by their names
module _ (t : Operation) (n : ℕ) (insertion : Place) (x : ℕ) (p : Option (List Edit)) (r : Rule) where
  pub when_open_branch : r ≡ rules.OpenBranch → p ≡ open_branch_at x t insertion → (o : Operation) → find x t ≡ Some o → p ≡ rule r t n insertion o
  unfolding rule
  when_open_branch k e o is = e ∙ ap (λ z. given z (λ o. open_branch t insertion o)) is ∙ ap (λ r. rule r t n insertion o) (sym k)

  pub when_open_loop : r ≡ rules.OpenLoop → p ≡ open_loop_at x t insertion → (o : Operation) → find x t ≡ Some o → p ≡ rule r t n insertion o
  unfolding rule
  when_open_loop k e o is = e ∙ ap (λ z. given z (λ o. open_loop t insertion o)) is ∙ ap (λ r. rule r t n insertion o) (sym k)

  pub when_stop_loop : r ≡ rules.StopLoop → p ≡ stop_loop_at x t insertion → (o : Operation) → find x t ≡ Some o → p ≡ rule r t n insertion o
  unfolding rule
  when_stop_loop k e o is = e ∙ ap (λ z. given z (λ o. stop_loop t insertion o)) is ∙ ap (λ r. rule r t n insertion o) (sym k)

-- the reason of a rule, by its name
pub reason_named : {P : Type 0} (r s : Rule) (w : World) (x : ℕ) (a : Result P Reason) → r ≡ s → HasReasonAt s w x a → HasReasonAt r w x a
reason_named r s w x a k h o f = h o f ∙ ap (λ r. first_failed_test (tests r (module_in w).tree o (is_ok a))) (sym k)

-- the reason of `erase-dead`
pub dead_reason : (w : World) (x : ℕ) (a : Result RewritePlan Reason) → result_err a ≡ first_failed_test (dead_tests x (module_in w).tree (is_ok a)) → HasReasonAt rules.EraseDead w x a
dead_reason w x a h o f = h ∙ ap (λ y. first_failed_test (dead_tests y (module_in w).tree (is_ok a))) (sym (found_id x (module_in w).tree o f))

-- a rule that neither lowers nor reads more than its operation's head
pub reads_only_head : (r : Rule) → is_lowering r ≡ false → (r ≡ rules.EraseDead → ⊥) → (r ≡ rules.OpenBranch → ⊥) → (r ≡ rules.OpenLoop → ⊥) → (r ≡ rules.StopLoop → ⊥) → reads_head r ≡ true
reads_only_head rules.EraseDead l a b d e = absurd (a refl)
reads_only_head rules.FoldToConstant l a b d e = refl
reads_only_head rules.SwapConstant l a b d e = refl
reads_only_head rules.DropZero l a b d e = refl
reads_only_head rules.DropOne l a b d e = refl
reads_only_head rules.DropAllOnes l a b d e = refl
reads_only_head rules.CancelItself l a b d e = refl
reads_only_head rules.KeepItself l a b d e = refl
reads_only_head rules.ZeroRemainder l a b d e = refl
reads_only_head rules.RegroupConstants l a b d e = refl
reads_only_head rules.AddNegative l a b d e = refl
reads_only_head rules.CompareItself l a b d e = refl
reads_only_head rules.MirrorComparison l a b d e = refl
reads_only_head rules.CompareZero l a b d e = refl
reads_only_head rules.ChooseSame l a b d e = refl
reads_only_head rules.ChooseKnown l a b d e = refl
reads_only_head rules.ChooseTruth l a b d e = refl
reads_only_head rules.ChooseOpposite l a b d e = refl
reads_only_head rules.ExtendExtension l a b d e = refl
reads_only_head rules.CutCast l a b d e = refl
reads_only_head rules.CastBack l a b d e = refl
reads_only_head rules.OpenBranch l a b d e = absurd (b refl)
reads_only_head rules.OpenLoop l a b d e = absurd (d refl)
reads_only_head rules.StopLoop l a b d e = absurd (e refl)
reads_only_head rules.ExpandMinMax l a b d e = refl
reads_only_head rules.ExpandDifference l a b d e = refl
reads_only_head rules.ExpandRemainder l a b d e = refl
reads_only_head rules.LowerIndex l a b d e = absurd (true≢false l)
reads_only_head rules.LowerLoop l a b d e = absurd (true≢false l)
reads_only_head rules.LowerChoice l a b d e = absurd (true≢false l)

-- a rule that reads only the head of its operation has no condition on a block
no_block : (r : Rule) → reads_head r ≡ true → asks_block r ≡ false
no_block r e = go (is_erasing r) (same_rule r rules.OpenBranch) (asks_block r) (is_lowering r) e
  where
    go : (a s b l : Bool) → not (a || ((s || b) || l)) ≡ true → b ≡ false
    go a s false l e = refl
    go true s true l e = absurd (true≢false (sym e))
    go false true true l e = absurd (true≢false (sym e))
    go false false true l e = absurd (true≢false (sym e))

-- the answer of a rule that reads only the head of its operation
module _ (r : Rule) (w : World) (x : ℕ) (node : Node) (point : Place) (head_only : reads_head r ≡ true) (shown : Some (header_of_node w.ctx node) ≡ head_at x (module_in w).tree) where
  pub head_plan : (a : Result RewritePlan Reason) → IsAnswerAt r w x node a → HasPlanAfter r w x point a
  head_plan a answer o f = answer.0 o f (module_in w).next point

  pub head_reason : (a : Result RewritePlan Reason) → IsAnswerAt r w x node a → HasReasonAt r w x a
  head_reason a answer o f =
      answer.1 ∙ ap (λ (h : Header). first_failed_test (header_tests r (module_in w).tree h (is_ok a))) (shown_head x (module_in w).tree (header_of_node w.ctx node) o shown f)
      ∙ sym (ap (λ b. first_failed_test (if b then block_tests r (module_in w).tree o (is_ok a) else header_tests r (module_in w).tree (head o) (is_ok a))) (no_block r head_only))
