use Rattle.std.proofs.Common.{sym, ◌∙◌, ap}
use Rattle.ir_event.specs.declared.world.World.{World}
use Rattle.constants.proofs.Using.{not_shown, properties_known, results_known, folds_as}
use Rattle.constants.specs.Tables.{known_in}
use Rattle.constants.proofs.users.folded.Goals as goal

pub returns-in_default-clause-value : goal.returns-in_default-clause-value
returns-in_default-clause-value c there = absurd (not_shown c.args.view.now.world.now c.args.op (sym c.node.ensures.answer ∙ c.in_default.is) there)

pub fold-requires-clause-props : goal.fold-requires-clause-props
fold-requires-clause-props c =
    let w = c.args.view.now.world.now in
    properties_known w c.args.op c.in-Some.node (sym c.node.ensures.answer ∙ c.in-Some.is) c.context.result.now c.properties.result.now (c.context.ensures ∙ ap (λ (z : World). z.ctx) c.node.ensures.world) c.properties.ensures

pub fold-requires-clause-results : goal.fold-requires-clause-results
fold-requires-clause-results c =
    let w = c.args.view.now.world.now in
    results_known w c.args.op c.in-Some.node (sym c.node.ensures.answer ∙ c.in-Some.is) c.context.result.now c.results.result.now (c.context.ensures ∙ ap (λ (z : World). z.ctx) c.node.ensures.world) c.results.ensures

pub returns-clause-value : goal.returns-clause-value
returns-clause-value c =
    let w = c.args.view.now.world.now in
    folds_as w c.args.op c.in-Some.node (sym c.node.ensures.answer ∙ c.in-Some.is) (known_in c.args.table.now) c.in_ok-operands.operands.items c.deref.result.now c.fold.result
    c.context.result.now c.name.result c.properties.result.now c.operands.result.now c.results.result.now
    (c.context.ensures ∙ ap (λ (z : World). z.ctx) c.node.ensures.world) c.name.ensures c.properties.ensures c.operands.ensures c.results.ensures c.deref.ensures c.in_ok-operands.ensures c.fold.ensures
