-- Correct plans of a part of a rule on casts, if the defining operation is already read.
use Rattle.std.specs.Prelude.{◌≡◌, ℕ, List, Option, Some, Result, IfOk}
use Rattle.std.specs.Result.{result_err}
use Rattle.ir_event.specs.trees.declared.place.Place.{Place}
use Rattle.ir_event.specs.trees.Meaning.{Operation}
use Rattle.ir_event.specs.store.Nodes.{Node}
use Rattle.ir_event.specs.declared.world.World.{World}
use Rattle.ir_event.specs.Modules.{module_in}
use Rattle.patterns_matchers.specs.Contents.{Edit}
use Rattle.patterns_matchers.specs.Looks.{One}
use Rattle.patterns_matchers.specs.Plans.{plan_meaning}
use Rattle.patterns_matchers.specs.Reads.{bare_in, one_in}
use Rattle.patterns_matchers.specs.declared.plan.RewritePlan.{RewritePlan}
use Rattle.patterns_matchers.specs.declared.shapes.UnaryOp.{UnaryOp}
use Rattle.patterns_plans.specs.declared.reason.Reason.{Reason}
use Rattle.patterns_plans.specs.Conditions.{Test, first_failed_test}

-- a plan is that of a part of a rule at operation x, which has this operand, name and result
abbrev pub IsPlannedOne : (Operation → ℕ → Place → Operation → One → Option (List Edit)) → World → ℕ → UnaryOp
    → RewritePlan → Type 0
IsPlannedOne part w x p plan = (node : Node) (n : ℕ) (point : Place)
    → Some (plan_meaning w.ctx n x point plan)
    ≡ part (module_in w).tree n point (bare_in w.ctx x node) (one_in w.ctx p)

-- the plan of an answer, if it has one, is that of a part of a rule
abbrev pub HasPlanOne : (Operation → ℕ → Place → Operation → One → Option (List Edit)) → World → ℕ → UnaryOp
    → Result RewritePlan Reason → Type 0
HasPlanOne part w x p a = IfOk a (IsPlannedOne part w x p)

-- the reason of an answer is the first test of a part of a rule that fails; it has none if all hold
abbrev pub HasReasonOne : (Operation → One → List Test) → World → UnaryOp → Result RewritePlan Reason → Type 0
HasReasonOne tests w p a = result_err a ≡ first_failed_test (tests (module_in w).tree (one_in w.ctx p))
