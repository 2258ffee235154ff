use Rattle.std.proofs.Common.{◌∙◌, sym, ap, Some, length, take, drop, ◌-◌}
use Rattle.std.specs.Prelude.{codes, option_map}
use Rattle.ir_event.specs.types.Terms.{name_term}
use Rattle.ir_event.specs.Modules.{module_in}
use Rattle.patterns_plans.specs.reads.Words.{named}
use Rattle.patterns_plans.specs.reads.Plans.{plan_meaning}
use Rattle.patterns_regions.proofs.Ruled.{never_open_loop, once_open_loop}
use Rattle.patterns_regions.proofs.Slices.{three_items}
use Rattle.patterns_regions.proofs.plans.plan_open_loop.Goals as goal

pub returns-in_ok-go_never-in-Zero-clause-edits : goal.returns-in_ok-go_never-in-Zero-clause-edits
returns-in_ok-go_never-in-Zero-clause-edits c =
    let w = c.args.world.now in
    let xs = c.operands.result.now in
    never_open_loop w.ctx c.in-Some.node c.args.op (module_in w).tree c.args.point.now c.in-Some.ensures.node c.lower-item.result c.upper-item.result c.step-item.result (take (length xs - 3) (drop 3 xs))
    (sym c.operands.ensures ∙ three_items xs c.lower-item.result c.upper-item.result c.step-item.result _ _ _ c.in-len3-up.len_at_least c.lower-item.is c.upper-item.is c.step-item.is)
    c.is_word.result (c.is_word.ensures ∙ ap (λ n. named (codes "scf.for") (name_term w.ctx n)) c.name.ensures) c.if-not-is_word.false
    (ap Some (sym c.in-Zero.is) ∙ sym c.in-Some-2.is ∙ c.in_ok-times.ensures) _ (c.in_ok-go_never-in-Zero.ensures.edits w.ctx)

pub returns-in_ok-go_never-in-Zero-clause-of : goal.returns-in_ok-go_never-in-Zero-clause-of
returns-in_ok-go_never-in-Zero-clause-of c = c.in_ok-go_never-in-Zero.ensures.fits_in c.args.world.now.ctx

pub returns-in-Some-3-clause-edits : goal.returns-in-Some-3-clause-edits
returns-in-Some-3-clause-edits c =
    let w = c.args.world.now in
    let xs = c.operands.result.now in
    ap (option_map (plan_meaning w.ctx (module_in w).next c.args.op c.args.point.now)) (sym c.in-Some-3.is)
    ∙ once_open_loop w.ctx c.in-Some.node c.args.op (module_in w).tree c.args.point.now c.in-Some.ensures.node c.lower-item.result c.upper-item.result c.step-item.result (take (length xs - 3) (drop 3 xs))
    (sym c.operands.ensures ∙ three_items xs c.lower-item.result c.upper-item.result c.step-item.result _ _ _ c.in-len3-up.len_at_least c.lower-item.is c.upper-item.is c.step-item.is)
    c.is_word.result (c.is_word.ensures ∙ ap (λ n. named (codes "scf.for") (name_term w.ctx n)) c.name.ensures) c.if-not-is_word.false
    (ap Some (sym c.in-One.is) ∙ sym c.in-Some-2.is ∙ c.in_ok-times.ensures) _ c.in_ok-plan-in-One.ensures.edits

pub returns-in-None-clause-edits : goal.returns-in-None-clause-edits
returns-in-None-clause-edits c =
    let w = c.args.world.now in
    let xs = c.operands.result.now in
    ap (option_map (plan_meaning w.ctx (module_in w).next c.args.op c.args.point.now)) (sym c.in-None.is)
    ∙ once_open_loop w.ctx c.in-Some.node c.args.op (module_in w).tree c.args.point.now c.in-Some.ensures.node c.lower-item.result c.upper-item.result c.step-item.result (take (length xs - 3) (drop 3 xs))
    (sym c.operands.ensures ∙ three_items xs c.lower-item.result c.upper-item.result c.step-item.result _ _ _ c.in-len3-up.len_at_least c.lower-item.is c.upper-item.is c.step-item.is)
    c.is_word.result (c.is_word.ensures ∙ ap (λ n. named (codes "scf.for") (name_term w.ctx n)) c.name.ensures) c.if-not-is_word.false
    (ap Some (sym c.in-One.is) ∙ sym c.in-Some-2.is ∙ c.in_ok-times.ensures) _ c.in_ok-plan-in-One.ensures.edits
