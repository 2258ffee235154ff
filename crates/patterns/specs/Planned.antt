-- The plans of rules at operations, with the place before each operation.
use Rattle.std.specs.Prelude.{◌≡◌, ℕ, List, Result, Ok, Err, ◌⊎◌, Option, option_map, Some}
use Rattle.ir_event.specs.types.Things.{ContextModel}
use Rattle.ir_event.specs.types.declared.refusal.Refusal.{Refusal}
use Rattle.ir_event.specs.types.declared.refusal.Refusal.TheVariants.{Memory, Full}
use Rattle.ir_event.specs.trees.declared.place.Place.{Place}
use Rattle.ir_event.specs.trees.Ids.{find}
use Rattle.ir_event.specs.trees.Meaning.{Operation}
use Rattle.ir_event.specs.declared.world.World.{World}
use Rattle.ir_event.specs.Modules.{Module, module_in}
use Rattle.patterns_lowering.specs.Contents.{Edit}
use Rattle.patterns_lowering.specs.Lists.{Free}
use Rattle.patterns_soundness.specs.base.Rules.{rule}
use Rattle.patterns_soundness.specs.base.declared.rule.Rule.{Rule}
use Rattle.patterns_soundness.specs.base.Rewrites.{becomes, refused, carried_out}
use Rattle.patterns_lowering.specs.Interning.{IsFull}
use Rattle.patterns_plans.specs.reads.Plans.{PlanIsOf, plan_meaning}
use Rattle.patterns_lowering.specs.Meanings.{lowering_meaning}
use Rattle.patterns_lowering.specs.Plans.{LoweringIsOf}
use Rattle.patterns.specs.declared.plan.RulePlan.{RulePlan}
use Rattle.patterns.specs.declared.plan.RulePlan.TheVariants as made
use Rattle.patterns.specs.declared.plan.PlacedPlan.{PlacedPlan}

-- the edits of a rule's plan at operation x, where n is the next free id and the place is before x
abbrev pub made_edits : ContextModel → ℕ → ℕ → Place → RulePlan → List Edit
made_edits c n x point (made.Rewrite p) = plan_meaning c n x point p
made_edits c n x point (made.Lowering p) = lowering_meaning c n point p.value

-- the numbers of the plan are interned in a context, and in some context
abbrev pub MadeIsOf : ContextModel → RulePlan → Type 0
MadeIsOf c (made.Rewrite p) = PlanIsOf c p
MadeIsOf c (made.Lowering p) = LoweringIsOf c p.value

abbrev pub IsOfSome : RulePlan → Type 0
IsOfSome p = (c : ContextModel) × MadeIsOf c p

-- the same with its place
abbrev pub planned_edits : ContextModel → ℕ → ℕ → PlacedPlan → List Edit
planned_edits c n x p = made_edits c n x p.point p.made

-- a plan, or none, is that of rule r at operation x after a place, if x is in the module
abbrev pub IsMadeFor : Rule → World → ℕ → Place → Option RulePlan → Type 0
IsMadeFor r w x point p = (o : Operation) → find x (module_in w).tree ≡ Some o
    → option_map (made_edits w.ctx (module_in w).next x point) p ≡ rule r (module_in w).tree (module_in w).next point o

-- why edits aren't carried out, where c is the context after it: memory ran out, a limit is exceeded, or the context
-- is full
abbrev pub ApplyFails : List Edit → Module → ContextModel → Refusal → Type 0
ApplyFails es m c e = (e ≡ Memory) ⊎ ((carried_out es m ≡ refused e) ⊎ ((e ≡ Full) × IsFull c))

-- none of the edits is refused, if they can be carried out
abbrev pub IsFree : List Edit → Module → Type 0
IsFree es m = (n : Module) → carried_out es m ≡ becomes n → Free es m

-- the edits were carried out, or the module is unchanged
abbrev pub WereCarried : List Edit → Result (Unit {0}) Refusal → Module → Module → ContextModel → Type 0
WereCarried es (Ok u) m n c = carried_out es m ≡ becomes n
WereCarried es (Err e) m n c = (n ≡ m) × ApplyFails es m c e
