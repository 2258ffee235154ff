-- The number of operations that the plans of rules make.
use Rattle.std.proofs.Common.{◌≡◌, refl, ap, ℕ, ◌+◌, List, [], ◌∷◌}
use Rattle.ir_event.specs.types.Things.{ContextModel}
use Rattle.ir_event.specs.trees.declared.place.Place.{Place}
use Rattle.patterns_base.specs.Lists.{edits_meaning}
use Rattle.patterns_base.specs.declared.edit.Edit.{Edit as Coded}
use Rattle.patterns_base.specs.declared.edit.Edit.TheVariants as coded
use Rattle.patterns_plans.specs.reads.declared.plan.RewritePlan.{RewritePlan}
use Rattle.patterns_plans.specs.reads.declared.plan.RewritePlan.TheVariants as plan
use Rattle.patterns_plans.specs.reads.declared.plan.LargePlan.{LargePlan}
use Rattle.patterns_plans.specs.reads.declared.plan.LargePlan.TheVariants as large
use Rattle.patterns_soundness.specs.base.Makes.{made_by}
use Rattle.patterns_plans.specs.reads.Plans.{large_meaning, plan_meaning}
use Rattle.patterns_lowering.proofs.Counted.{lowering_made}
use Rattle.patterns.specs.Making.{all_make, large_makes, made_makes, plan_makes}
use Rattle.patterns.specs.Planned.{MadeIsOf, made_edits}
use Rattle.patterns.specs.declared.plan.RulePlan.{RulePlan}
use Rattle.patterns.specs.declared.plan.RulePlan.TheVariants as made

edits_made : (c : ContextModel) (es : List Coded) → made_by (edits_meaning c es) ≡ all_make es
edits_made c [] = refl
edits_made c (coded.Make place o ∷ es) = ap (λ n. 1 + n) (edits_made c es)
edits_made c (coded.SetOperand x k v ∷ es) = ap (λ n. 0 + n) (edits_made c es)
edits_made c (coded.Replace v w ∷ es) = ap (λ n. 0 + n) (edits_made c es)
edits_made c (coded.Move x place ∷ es) = ap (λ n. 0 + n) (edits_made c es)
edits_made c (coded.Erase x ∷ es) = ap (λ n. 0 + n) (edits_made c es)
edits_made c (coded.SetAttr x k a ∷ es) = ap (λ n. 0 + n) (edits_made c es)

large_made : (c : ContextModel) (n x : ℕ) (insertion : Place) (p : LargePlan) → made_by (large_meaning c n x insertion p) ≡ large_makes p
large_made c n x insertion (large.CombinedConstant name ty v bits) = refl
large_made c n x insertion (large.SwapComparison p a b) = refl
large_made c n x insertion (large.CompareAndSelect p ty a b) = refl
large_made c n x insertion (large.Difference ty a b ones) = refl
large_made c n x insertion (large.Remainder division ty a b) = refl

pub plan_made : (c : ContextModel) (n x : ℕ) (insertion : Place) (p : RewritePlan) → made_by (plan_meaning c n x insertion p) ≡ plan_makes p
plan_made c n x insertion plan.Erase = refl
plan_made c n x insertion (plan.Give v) = refl
plan_made c n x insertion (plan.Edits es) = edits_made c es.items
plan_made c n x insertion (plan.Constant ty bits) = refl
plan_made c n x insertion (plan.Cast name ty v) = refl
plan_made c n x insertion (plan.Large p) = large_made c n x insertion p.value

-- and that the plan of a rule makes
pub made_counted : (c : ContextModel) (n x : ℕ) (insertion : Place) (p : RulePlan) → MadeIsOf c p → made_by (made_edits c n x insertion p) ≡ made_makes p
made_counted c n x insertion (made.Rewrite p) of = plan_made c n x insertion p
made_counted c n x insertion (made.Lowering p) of = lowering_made c n insertion p.value of
