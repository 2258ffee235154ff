-- Answers of rules that read more of their operation than its head: a plan, or the first condition that doesn't hold.
use Rattle.std.specs.Prelude.{◌≡◌, ℕ, Bool, true, false, Option, Some, option_map, Result, is_ok}
use Rattle.std.specs.Result.{result_err, result_ok}
use Rattle.ir_event.specs.trees.declared.place.Place.{Place}
use Rattle.ir_event.specs.trees.Ids.{find}
use Rattle.ir_event.specs.trees.Meaning.{Operation}
use Rattle.ir_event.specs.declared.world.World.{World}
use Rattle.ir_event.specs.Modules.{module_in}
use Rattle.patterns_plans.specs.Conditions.{first_failed_test}
use Rattle.patterns_plans.specs.RuleTests.{tests}
use Rattle.patterns_plans.specs.declared.reason.Reason.{Reason}
use Rattle.patterns_plans.specs.declared.reason.Reason.TheVariants.{BlockNotVerified, RunsAgain}
use Rattle.patterns_plans.specs.reads.Plans.{plan_meaning}
use Rattle.patterns_plans.specs.reads.Rule.{Rule}
use Rattle.patterns_plans.specs.reads.Rules.{rule}
use Rattle.patterns_plans.specs.reads.declared.plan.RewritePlan.{RewritePlan}

-- the reason of an answer is the first test of rule r that fails at operation x of a world's module, if x is in the
-- module; it has none if all hold
abbrev pub HasReasonAt : {P : Type 0} → Rule → World → ℕ → Result P Reason → Type 0
HasReasonAt r w x a = (o : Operation) → find x (module_in w).tree ≡ Some o
    → result_err a ≡ first_failed_test (tests r (module_in w).tree o (is_ok a))

-- a plan, or none, is that of rule r at operation x of a world's module after a place, if x is in the module
abbrev pub IsPlanAfter : Rule → World → ℕ → Place → Option RewritePlan → Type 0
IsPlanAfter r w x point p = (o : Operation) → find x (module_in w).tree ≡ Some o
    → option_map (plan_meaning w.ctx (module_in w).next x point) p
    ≡ rule r (module_in w).tree (module_in w).next point o

-- the plan of an answer is that of rule r
abbrev pub HasPlanAfter : Rule → World → ℕ → Place → Result RewritePlan Reason → Type 0
HasPlanAfter r w x point a = IsPlanAfter r w x point (result_ok a)

-- why a loop with known bounds and a known step isn't inlined, given whether its block is verified
abbrev pub several_reason : Bool → Reason
several_reason true = RunsAgain
several_reason false = BlockNotVerified
