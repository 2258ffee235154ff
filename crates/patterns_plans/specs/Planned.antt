-- Correct plans of a rule at an operation that the store shows.
use Rattle.std.specs.Prelude.{◌≡◌, ℕ, List, Bool, true, not, ◌||◌, Option, Some, option_map}
use Rattle.std.specs.Prelude.{Result, IfOk, is_ok}
use Rattle.std.specs.Result.{result_err, result_ok}
use Rattle.ir_event.specs.trees.declared.place.Place.{Place}
use Rattle.ir_event.specs.trees.Ids.{find}
use Rattle.ir_event.specs.trees.Meaning.{Operation}
use Rattle.ir_event.specs.store.Nodes.{Node}
use Rattle.ir_event.specs.declared.world.World.{World}
use Rattle.ir_event.specs.Modules.{module_in}
use Rattle.effects.specs.Dead.{dead_at}
use Rattle.patterns_matchers.specs.Contents.{Edit}
use Rattle.patterns_matchers.specs.Plans.{plan_meaning}
use Rattle.patterns_matchers.specs.Looks.{Header}
use Rattle.patterns_matchers.specs.Reads.{bare_in, header_of_node}
use Rattle.patterns_matchers.specs.Rule.{Rule}
use Rattle.patterns_matchers.specs.Rule.TheVariants.{OpenBranch}
use Rattle.patterns_matchers.specs.RuleNames.{is_erasing, is_lowering, same_rule}
use Rattle.patterns_matchers.specs.Rules.{rule}
use Rattle.patterns_matchers.specs.declared.plan.RewritePlan.{RewritePlan}
use Rattle.patterns_plans.specs.declared.reason.Reason.{Reason}
use Rattle.patterns_plans.specs.Conditions.{Test, first_failed_test}
use Rattle.patterns_plans.specs.RuleTests.{asks_block, fold_to_constant, header_tests, regroup_constants}

-- a rule: its edits at an operation of a tree, for a next free id and the place before the operation, if it applies
abbrev pub Making : Type 0
Making = Operation → ℕ → Place → Operation → Option (List Edit)

-- a plan, or none, is that of a rule at operation x of a world's module, which this node shows, for any next id and
-- any place of x
abbrev pub IsPlanned : Making → World → ℕ → Node → Option RewritePlan → Type 0
IsPlanned makes w x node p = (n : ℕ) (point : Place)
    → option_map (plan_meaning w.ctx n x point) p ≡ makes (module_in w).tree n point (bare_in w.ctx x node)

-- a plan, or none, is that of rule r at operation x, if x is in the module, for any next id and any place of x
abbrev pub IsPlanAt : Rule → World → ℕ → Option RewritePlan → Type 0
IsPlanAt r w x p = (o : Operation) → find x (module_in w).tree ≡ Some o → (n : ℕ) (point : Place)
    → option_map (plan_meaning w.ctx n x point) p ≡ rule r (module_in w).tree n point o

-- operation x is in a world's module and is dead
abbrev pub IsDead : World → ℕ → Type 0
IsDead w x = dead_at x (module_in w).tree ≡ true

-- whether a rule inlines a block of a branch or loop
abbrev pub is_opening : Rule → Bool
is_opening r = same_rule r OpenBranch || asks_block r

-- the plan of an answer, if it has one, is that of a rule at operation x, which this node shows
abbrev pub HasPlan : Making → World → ℕ → Node → Result RewritePlan Reason → Type 0
HasPlan makes w x node a = IfOk a (λ p. IsPlanned makes w x node (Some p))

-- the reason of an answer is the first test of a rule that fails at a node; it has none if all hold
abbrev pub HasReason : (Operation → Header → List Test) → World → Node → Result RewritePlan Reason → Type 0
HasReason tests w node a = result_err a ≡ first_failed_test (tests (module_in w).tree (header_of_node w.ctx node))

-- the same for the two rules whose last test is whether they apply
abbrev pub HasFoldReason : World → Node → Result RewritePlan Reason → Type 0
HasFoldReason w node a = HasReason (λ t h. fold_to_constant t h (is_ok a)) w node a

abbrev pub HasRegroupReason : World → Node → Result RewritePlan Reason → Type 0
HasRegroupReason w node a = HasReason (λ t h. regroup_constants t h (is_ok a)) w node a

-- whether a rule reads nothing of its operation but the head
abbrev pub reads_head : Rule → Bool
reads_head r = not (is_erasing r || (is_opening r || is_lowering r))

-- an answer to rule r at operation x, which this node shows: its plan is that of the rule, and its reason is the first
-- test of the rule that fails
abbrev pub IsAnswerAt : Rule → World → ℕ → Node → Result RewritePlan Reason → Type 0
IsAnswerAt r w x node a = IsPlanAt r w x (result_ok a)
    × HasReason (λ t h. header_tests r t h (is_ok a)) w node a
