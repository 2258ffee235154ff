use Rattle.std.proofs.Common.{◌∙◌, sym, subst}
use Rattle.ir_event.specs.Modules.{module_in}
use Rattle.patterns_base.proofs.Facts.{erases_not, others_suit}
use Rattle.patterns_lowering.proofs.Requested.{verified_shown}
use Rattle.patterns_lowering.specs.Meanings.{lowering_meaning}
use Rattle.patterns_lowering.specs.region_rules.reads.Plans.{plan_meaning}
use Rattle.patterns_lowering.specs.region_rules.reads.Reads.{header_of_node}
use Rattle.conversion_base.specs.Reasons.{IsReasonAt}
use Rattle.conversion_base.proofs.Reasoned.{answered}
use Rattle.conversion_base.proofs.match_failure.reason_at.Goals as goal

pub plan_lowered-requires-clause-verified : goal.plan_lowered-requires-clause-verified
plan_lowered-requires-clause-verified c =
    let w = c.args.world.now in
    let h = header_of_node w.ctx c.args.node.now in
    verified_shown w c.args.op h c.requires.shown (sym (others_suit c.args.rule (module_in w).tree (record h { id = c.args.op }) (erases_not c.args.rule (sym c.is_lowering.ensures ∙ c.if-is_lowering.true))) ∙ c.requires.eligible)

pub returns-then-is_lowering : goal.returns-then-is_lowering
returns-then-is_lowering c =
    let w = c.args.world.now in
    subst (IsReasonAt c.args.rule (module_in w) c.args.op c.args.point.now) (sym c.err.ensures.value)
    (answered (lowering_meaning w.ctx (module_in w).next c.args.point.now) c.args.rule w c.args.op c.args.point.now c.in_ok-answer.answer
    (λ o f. c.in_ok-answer.ensures.edits o f (module_in w).next c.args.point.now) c.in_ok-answer.ensures.reason)

pub returns : goal.returns
returns c =
    let w = c.args.world.now in
    subst (IsReasonAt c.args.rule (module_in w) c.args.op c.args.point.now) (sym c.err-2.ensures.value)
    (answered (plan_meaning w.ctx (module_in w).next c.args.op c.args.point.now) c.args.rule w c.args.op c.args.point.now c.in_ok-answer-2.answer c.in_ok-answer-2.ensures.edits c.in_ok-answer-2.ensures.reason)
