use Rattle.std.proofs.Common.{◌∙◌, sym, ap, length, take, drop, ◌-◌}
use Rattle.std.specs.Prelude.{codes, option_map}
use Rattle.ir_event.specs.types.Terms.{name_term}
use Rattle.ir_event.specs.Modules.{module_in}
use Rattle.patterns_plans.specs.reads.Words.{named}
use Rattle.patterns_regions.specs.Blocks.{ended_in}
use Rattle.patterns_regions.specs.Opened.{opening}
use Rattle.patterns_regions.proofs.Ruled.{number_stop_loop}
use Rattle.patterns_regions.proofs.plans.plan_stop_loop.Goals as goal
use Rattle.ir_event.proofs.of_types.Truths.{rest_at}

pub returns-clause-edits : goal.returns-clause-edits
returns-clause-edits c =
    let w = c.args.world.now in
    let xs = c.operands.result.now in
    let handed = take (length xs - 1) (drop 1 xs) in
    number_stop_loop w.ctx c.in-Some.node c.args.op (module_in w).tree c.args.point.now c.in-Some.ensures.node
    (ended_in w.ctx c.in-Some-2.body) (ap (option_map (ended_in w.ctx)) (sym c.in-Some-2.is) ∙ c.in_ok-body.ensures.body)
    c.condition-item.result handed (sym c.operands.ensures ∙ rest_at xs c.condition-item.result _ c.in-len1-up.len_at_least c.condition-item.is)
    _ c.in_ok-is_number.ensures
    c.is_word.result (c.is_word.ensures ∙ ap (λ n. named (codes "scf.while") (name_term w.ctx n)) c.name.ensures) c.if-not-is_word.false
    c.if-not-branch.false _ (c.in_ok-edits.ensures.edits w.ctx ∙ (λ i. opening c.args.op c.args.point.now (c.deref.ensures.value i) (c.operands-2.ensures i) handed))

pub returns-clause-of : goal.returns-clause-of
returns-clause-of c = c.in_ok-edits.ensures.fits_in c.args.world.now.ctx
