use Rattle.std.proofs.Common.{◌∙◌}
use Rattle.std.proofs.lemmas.Result.{IfOk-weaker}
use Rattle.ir_event.specs.Modules.{module_in}
use Rattle.patterns_lowering.proofs.Named.{at_lower_index, at_lower_loop, at_lower_choice}
use Rattle.patterns_regions.proofs.Answered.{reason_named}
use Rattle.patterns_soundness.specs.base.declared.rule.Rule.TheVariants.{LowerIndex, LowerLoop, LowerChoice}
use Rattle.patterns_lowering.proofs.plans.plan_lowered.Goals as goal

pub returns-in-LowerIndex-clause-edits : goal.returns-in-LowerIndex-clause-edits
returns-in-LowerIndex-clause-edits c =
    IfOk-weaker c.plan_lower_index.result _ _
    (λ p h o e n insertion. h o e n insertion ∙ at_lower_index c.args.rule c.in-LowerIndex.is (module_in c.args.world.now).tree n insertion o)
    c.plan_lower_index.ensures.edits

pub returns-in-LowerLoop-clause-edits : goal.returns-in-LowerLoop-clause-edits
returns-in-LowerLoop-clause-edits c =
    IfOk-weaker c.plan_lower_loop.result _ _
    (λ p h o e n insertion. h o e n insertion ∙ at_lower_loop c.args.rule c.in-LowerLoop.is (module_in c.args.world.now).tree n insertion o)
    c.plan_lower_loop.ensures.edits

pub returns-in-LowerChoice-clause-edits : goal.returns-in-LowerChoice-clause-edits
returns-in-LowerChoice-clause-edits c =
    IfOk-weaker c.plan_lower_choice.result _ _
    (λ p h o e n insertion. h o e n insertion ∙ at_lower_choice c.args.rule c.in-LowerChoice.is (module_in c.args.world.now).tree n insertion o)
    c.plan_lower_choice.ensures.edits

pub returns-in-LowerIndex-clause-reason : goal.returns-in-LowerIndex-clause-reason
returns-in-LowerIndex-clause-reason c = IfOk-weaker c.plan_lower_index.result _ _ (λ a h. reason_named c.args.rule LowerIndex c.args.world.now c.args.op a c.in-LowerIndex.is h) c.plan_lower_index.ensures.reason

pub returns-in-LowerLoop-clause-reason : goal.returns-in-LowerLoop-clause-reason
returns-in-LowerLoop-clause-reason c = IfOk-weaker c.plan_lower_loop.result _ _ (λ a h. reason_named c.args.rule LowerLoop c.args.world.now c.args.op a c.in-LowerLoop.is h) c.plan_lower_loop.ensures.reason

pub returns-in-LowerChoice-clause-reason : goal.returns-in-LowerChoice-clause-reason
returns-in-LowerChoice-clause-reason c = IfOk-weaker c.plan_lower_choice.result _ _ (λ a h. reason_named c.args.rule LowerChoice c.args.world.now c.args.op a c.in-LowerChoice.is h) c.plan_lower_choice.ensures.reason
