-- The number of operations that plans make, the meaning of a plan's edits, and the result of making them.
use Rattle.std.specs.Prelude.{◌≡◌, ℕ, ◌+◌, List, [], ◌∷◌, Result, OnOk, OnErr, IfErr}
use Rattle.ir_event.specs.types.Things.{ContextModel}
use Rattle.ir_event.specs.types.declared.refusal.Refusal.{Refusal}
use Rattle.ir_event.specs.Listener.{Listener}
use Rattle.ir_event.specs.Modules.{Module}
use Rattle.patterns_base.specs.Contents.{Edit, all_edited}
use Rattle.patterns_base.specs.Lists.{AllFit, Free, IsWhy, edits_meaning}
use Rattle.patterns_base.specs.declared.edit.Edit.{Edit as Coded}
use Rattle.patterns_base.specs.declared.edit.Edit.TheVariants as edit
use Rattle.patterns_lowering.specs.Held.{module_held}
use Rattle.patterns_lowering.specs.Plans.{lowering_makes}
use Rattle.patterns_lowering.specs.RewriterCalls.{Benched, JournalAfter}
use Rattle.patterns_lowering.specs.Runs.{Along}
use Rattle.patterns_plans.specs.reads.declared.plan.RewritePlan.{RewritePlan}
use Rattle.patterns_plans.specs.reads.declared.plan.RewritePlan.TheVariants as plan
use Rattle.patterns_plans.specs.reads.declared.plan.LargePlan.{LargePlan}
use Rattle.patterns_plans.specs.reads.declared.plan.LargePlan.TheVariants as large
use Rattle.patterns.specs.Numbered.{cast_edits, constant_edits, giving}
use Rattle.patterns.specs.declared.insertion_point.InsertionPoint.{InsertionPoint}
use Rattle.patterns.specs.declared.plan_edits.PlanEdits.{PlanEdits}
use Rattle.patterns.specs.declared.plan_edits.PlanEdits.TheVariants as listed
use Rattle.patterns.specs.declared.plan.RulePlan.{RulePlan}
use Rattle.patterns.specs.declared.plan.RulePlan.TheVariants as made

-- edits of the code fit a context and mean these edits there
pub record EditsDenote (c : ContextModel) (es : List Coded) (edits : List Edit) : Type 0 where
  pub meaning : edits_meaning c es ≡ edits
  pub fits_in : AllFit c es

-- edits of the code fit a context, and none of them is refused in a module
pub record AreFree (c : ContextModel) (es : List Coded) (m : Module) : Type 0 where
  pub fits_in : AllFit c es
  pub free : Free (edits_meaning c es) m

-- edits of the code were made one after another, or the module and the journal are unchanged; the open marks stay, and
-- the listeners were notified of exactly the events between the two modules
pub record AreMade {B : Type 0} (meaning : B → Listener) (es : List Coded) (result : Result (Unit {0}) Refusal) (old new : Benched B) : Type 0 where
  pub ok : OnOk result (module_held new.transaction ≡ all_edited (edits_meaning old.transaction.ctx es) (module_held old.transaction))
  pub err : OnErr result (module_held new.transaction ≡ module_held old.transaction)
  pub refused : IfErr result (IsWhy (edits_meaning old.transaction.ctx es) (module_held old.transaction))
  pub along : Along meaning old new
  pub journal : JournalAfter meaning result old new

-- the edits of a plan at a site, as the code lists them
abbrev pub listed_edits : InsertionPoint → PlanEdits → List Coded
listed_edits s listed.Erase = edit.Erase s.op ∷ []
listed_edits s (listed.Give v) = giving s v
listed_edits s (listed.Constant ty a) = constant_edits s ty a
listed_edits s (listed.Cast name ty v) = cast_edits s name ty v
listed_edits s (listed.List es) = es.items

-- the number of operations that an edit makes, and that some edits make
abbrev pub edit_makes : Coded → ℕ
edit_makes (edit.Make place o) = 1
edit_makes (edit.SetOperand x k v) = 0
edit_makes (edit.Replace v w) = 0
edit_makes (edit.Move x place) = 0
edit_makes (edit.Erase x) = 0
edit_makes (edit.SetAttr x k a) = 0

abbrev pub all_make : List Coded → ℕ
all_make [] = 0
all_make (e ∷ es) = edit_makes e + all_make es

-- the number of operations that a large plan makes, and that any plan makes
abbrev pub large_makes : LargePlan → ℕ
large_makes (large.CombinedConstant name ty v bits) = 2
large_makes (large.SwapComparison p a b) = 0
large_makes (large.CompareAndSelect p ty a b) = 2
large_makes (large.Difference ty a b ones) = 5
large_makes (large.Remainder division ty a b) = 3

abbrev pub plan_makes : RewritePlan → ℕ
plan_makes plan.Erase = 0
plan_makes (plan.Give v) = 0
plan_makes (plan.Edits es) = all_make es.items
plan_makes (plan.Constant ty bits) = 1
plan_makes (plan.Cast name ty v) = 1
plan_makes (plan.Large p) = large_makes p.value

-- and that the plan of a rule makes
abbrev pub made_makes : RulePlan → ℕ
made_makes (made.Rewrite p) = plan_makes p
made_makes (made.Lowering p) = lowering_makes p.value
