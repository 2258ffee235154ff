use Rattle.std.proofs.Common.{◌∙◌, ap, ◌++◌, ◌∷◌, [], Some}
use Rattle.std.proofs.lemmas.Result.{IfOk-weaker}
use Rattle.ir_event.specs.Modules.{module_in}
use Rattle.patterns_plans.specs.reads.Edit.TheVariants as coded
use Rattle.patterns_plans.specs.reads.Lists.{edits_meaning}
use Rattle.patterns_regions.proofs.Ruled.{chosen_block, chosen_empty}
use Rattle.patterns_regions.proofs.plans.choose.Goals as goal

pub returns-then-block-clause-edits : goal.returns-then-block-clause-edits
returns-then-block-clause-edits c =
    let w = c.args.world.now in
    IfOk-weaker c.open_block.result _ _
    (λ p h. h ∙ chosen_block w.ctx c.in-Some.node c.args.op (module_in w).tree c.args.point.now c.in-Some.ensures.node c.args.region c.has_block.result c.has_block.ensures (c.in-Some-has_block.is ∙ ap Some c.if-block.true))
    c.open_block.ensures.edits

pub returns-clause-edits : goal.returns-clause-edits
returns-clause-edits c =
    let w = c.args.world.now in
    ap (λ es. Some (edits_meaning w.ctx es)) (c.in_ok-push.ensures.items ∙ ap (λ l. l ++ coded.Erase c.args.op ∷ []) c.new-edits.ensures.items)
    ∙ chosen_empty w.ctx c.in-Some.node c.args.op (module_in w).tree c.args.point.now c.in-Some.ensures.node c.args.region c.has_block.result c.has_block.ensures (c.in-Some-has_block.is ∙ ap Some c.if-block.false)
