-- Answers to the rules that read only the head of their operation.
use Rattle.std.proofs.Common.{◌≡◌, ◌∙◌, ap, sym, refl, ℕ, List, [], ◌∷◌, Bool, true, false, true≢false, Option, Some, None, option_map}
use Rattle.std.proofs.lemmas.Option.{same_Some}
use Rattle.std.specs.Prelude.{◌&&◌, is_none, is_some, is_ok, IfOk, IfSome, Result, Ok, Err}
use Rattle.std.specs.Result.{result_ok}
use Rattle.ir_event.specs.trees.declared.place.Place.{Place}
use Rattle.ir_event.specs.trees.Ids.{find}
use Rattle.ir_event.specs.trees.Meaning.{Operation}
use Rattle.ir_event.specs.trees.Tree.{head}
use Rattle.ir_event.specs.store.Nodes.{Node}
use Rattle.ir_event.specs.declared.world.World.{World}
use Rattle.ir_event.specs.Modules.{module_in}
use Rattle.patterns_matchers.specs.Looks.{Header}
use Rattle.patterns_matchers.specs.Reads.{head_at, header_of_node}
use Rattle.patterns_matchers.specs.Rule.{Rule}
use Rattle.patterns_matchers.specs.Rules.{rule}
use Rattle.patterns_matchers.specs.declared.plan.RewritePlan.{RewritePlan}
use Rattle.patterns_plans.specs.declared.reason.Reason.{Reason}
use Rattle.patterns_plans.specs.Conditions.{Test, all_hold, first_failed_test, unless_holds}
use Rattle.patterns_plans.specs.Planned.{Making, HasPlan, HasReason, IsAnswerAt, IsPlanAt, IsPlanned}
use Rattle.patterns_plans.specs.RuleTests.{header_tests}
use Rattle.patterns_plans.proofs.Headed.{LooksAtHead, planned_at}

-- no condition fails exactly if all hold
none_of : (b : Bool) (c : Reason) (ts : List Test) → is_none (first_failed_test ts) ≡ all_hold ts → is_none (unless_holds b c (first_failed_test ts)) ≡ (b && all_hold ts)
none_of true c ts h = h
none_of false c ts h = refl

pub none_fails : (ts : List Test) → is_none (first_failed_test ts) ≡ all_hold ts
none_fails [] = refl
none_fails (t ∷ ts) = none_of t.holds t.condition ts (none_fails ts)

-- a rule with a failed condition makes no edits, if it makes edits exactly if all its conditions hold
none_made : {Y : Type 0} (ts : List Test) (e : Option Y) (c : Reason) → all_hold ts ≡ is_some e → Some c ≡ first_failed_test ts → None ≡ e
none_made ts None c pass f = refl
none_made ts (Some y) c pass f = absurd (true≢false (sym (ap is_none f ∙ none_fails ts ∙ pass)))

-- what the store shows of x is its head
pub shown_head : (x : ℕ) (t : Operation) (h : Header) (o : Operation) → Some h ≡ head_at x t → find x t ≡ Some o → h ≡ head o
shown_head x t h o e f = same_Some h (head o) (e ∙ ap (option_map (λ o. head o)) f)

-- the edits of rule s, and its tests, which don't ask whether the rule applies
module _ (makes : Making) (s : Rule) (looks : LooksAtHead makes s) (tests : Operation → Header → List Test)
    (named : (t : Operation) (h : Header) (b : Bool) → header_tests s t h b ≡ tests t h)
    (passes : (t : Operation) (n : ℕ) (point : Place) (o : Operation) → all_hold (tests t (head o)) ≡ is_some (rule s t n point o))
    (r : Rule) (is : r ≡ s) (w : World) (x : ℕ) (node : Node) (e : Some (header_of_node w.ctx node) ≡ head_at x (module_in w).tree) where
  planned : (a : Result RewritePlan Reason) → HasPlan makes w x node a → HasReason tests w node a → IsPlanAt r w x (result_ok a)
  planned (Ok p) h c = planned_at makes s looks r is w x node (Some p) e h
  planned (Err q) h c = λ o f n point.
      none_made (tests (module_in w).tree (head o)) (rule s (module_in w).tree n point o) q (passes (module_in w).tree n point o)
      (c ∙ ap (λ h. first_failed_test (tests (module_in w).tree h)) (shown_head x (module_in w).tree (header_of_node w.ctx node) o e f))
      ∙ ap (λ r. rule r (module_in w).tree n point o) (sym is)

  pub answer_at : (a : Result RewritePlan Reason) → HasPlan makes w x node a → HasReason tests w node a → IsAnswerAt r w x node a
  answer_at a h c = (
    planned a h c,
    c ∙ ap first_failed_test (sym (named (module_in w).tree (header_of_node w.ctx node) (is_ok a)) ∙ ap (λ r. header_tests r (module_in w).tree (header_of_node w.ctx node) (is_ok a)) (sym is)),
  )

  pub answered_at : {F : Type 0} (a : Result (Result RewritePlan Reason) F) → IfOk a (HasPlan makes w x node) → IfOk a (HasReason tests w node) → IfOk a (IsAnswerAt r w x node)
  answered_at (Ok a) h c = answer_at a h c
  answered_at (Err f) h c = tt

-- the same for a rule whose last test is whether the rule applies
module _ (makes : Making) (s : Rule) (looks : LooksAtHead makes s) (r : Rule) (is : r ≡ s) (w : World) (x : ℕ) (node : Node) (e : Some (header_of_node w.ctx node) ≡ head_at x (module_in w).tree) where
  pub applying_at : {F : Type 0} (a : Result (Result RewritePlan Reason) F) → IfOk a (λ a. IsPlanned makes w x node (result_ok a)) → IfOk a (λ a. HasReason (λ t h. header_tests s t h (is_ok a)) w node a)
      → IfOk a (IsAnswerAt r w x node)
  applying_at (Ok a) h c = (planned_at makes s looks r is w x node (result_ok a) e h, c ∙ ap (λ r. first_failed_test (header_tests r (module_in w).tree (header_of_node w.ctx node) (is_ok a))) (sym is))
  applying_at (Err f) h c = tt
