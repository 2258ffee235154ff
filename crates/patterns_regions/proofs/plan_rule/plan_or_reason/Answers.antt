use Rattle.std.proofs.Common.{sym, subst}
use Rattle.std.proofs.lemmas.Result.{IfOk-weaker}
use Rattle.std.specs.Result.{result_ok}
use Rattle.ir_event.specs.Modules.{module_in}
use Rattle.patterns_plans.specs.Planned.{IsPlanAt}
use Rattle.patterns_plans.specs.reads.Rule.TheVariants.{EraseDead, OpenBranch, OpenLoop, StopLoop}
use Rattle.patterns_regions.proofs.Answered.{dead_reason, head_plan, head_reason, reads_only_head, reason_named, when_open_branch, when_open_loop, when_stop_loop}
use Rattle.patterns_regions.proofs.plan_rule.plan_or_reason.Goals as goal

pub returns-in-EraseDead-clause-edits : goal.returns-in-EraseDead-clause-edits
returns-in-EraseDead-clause-edits c o f =
    let w = c.args.world.now in
    subst (λ r. IsPlanAt r w c.args.op (result_ok c.plan_erase_dead.result)) (sym c.in-EraseDead.is) c.plan_erase_dead.ensures.edits o f (module_in w).next c.args.point.now

pub returns-in-EraseDead-clause-reason : goal.returns-in-EraseDead-clause-reason
returns-in-EraseDead-clause-reason c =
    let w = c.args.world.now in
    let a = c.plan_erase_dead.result in
    reason_named c.args.rule EraseDead w c.args.op a c.in-EraseDead.is (dead_reason w c.args.op a c.plan_erase_dead.ensures.reason)

pub returns-in-OpenBranch-clause-edits : goal.returns-in-OpenBranch-clause-edits
returns-in-OpenBranch-clause-edits c =
    let m = module_in c.args.world.now in
    IfOk-weaker c.plan_open_branch.result _ _ (λ a h. when_open_branch m.tree m.next c.args.point.now c.args.op _ c.args.rule c.in-OpenBranch.is h) c.plan_open_branch.ensures.edits

pub returns-in-OpenBranch-clause-reason : goal.returns-in-OpenBranch-clause-reason
returns-in-OpenBranch-clause-reason c =
    IfOk-weaker c.plan_open_branch.result _ _ (λ a h. reason_named c.args.rule OpenBranch c.args.world.now c.args.op a c.in-OpenBranch.is h) c.plan_open_branch.ensures.reason

pub returns-in-OpenLoop-clause-edits : goal.returns-in-OpenLoop-clause-edits
returns-in-OpenLoop-clause-edits c =
    let m = module_in c.args.world.now in
    IfOk-weaker c.plan_open_loop.result _ _ (λ a h. when_open_loop m.tree m.next c.args.point.now c.args.op _ c.args.rule c.in-OpenLoop.is h) c.plan_open_loop.ensures.edits

pub returns-in-OpenLoop-clause-reason : goal.returns-in-OpenLoop-clause-reason
returns-in-OpenLoop-clause-reason c =
    IfOk-weaker c.plan_open_loop.result _ _ (λ a h. reason_named c.args.rule OpenLoop c.args.world.now c.args.op a c.in-OpenLoop.is h) c.plan_open_loop.ensures.reason

pub returns-in-StopLoop-clause-edits : goal.returns-in-StopLoop-clause-edits
returns-in-StopLoop-clause-edits c =
    let m = module_in c.args.world.now in
    IfOk-weaker c.plan_stop_loop.result _ _ (λ a h. when_stop_loop m.tree m.next c.args.point.now c.args.op _ c.args.rule c.in-StopLoop.is h) c.plan_stop_loop.ensures.edits

pub returns-in-StopLoop-clause-reason : goal.returns-in-StopLoop-clause-reason
returns-in-StopLoop-clause-reason c =
    IfOk-weaker c.plan_stop_loop.result _ _ (λ a h. reason_named c.args.rule StopLoop c.args.world.now c.args.op a c.in-StopLoop.is h) c.plan_stop_loop.ensures.reason

pub returns-in_default-clause-edits : goal.returns-in_default-clause-edits
returns-in_default-clause-edits c =
    let w = c.args.world.now in
    IfOk-weaker c.plan_or_reason.result _ _ (λ a h. head_plan c.args.rule w c.args.op c.args.node.now c.args.point.now (reads_only_head c.args.rule c.requires.rule c.in_default.not-EraseDead c.in_default.not-OpenBranch c.in_default.not-OpenLoop c.in_default.not-StopLoop) c.requires.shown a h) c.plan_or_reason.ensures.answer

pub returns-in_default-clause-reason : goal.returns-in_default-clause-reason
returns-in_default-clause-reason c =
    let w = c.args.world.now in
    IfOk-weaker c.plan_or_reason.result _ _ (λ a h. head_reason c.args.rule w c.args.op c.args.node.now c.args.point.now (reads_only_head c.args.rule c.requires.rule c.in_default.not-EraseDead c.in_default.not-OpenBranch c.in_default.not-OpenLoop c.in_default.not-StopLoop) c.requires.shown a h) c.plan_or_reason.ensures.answer
