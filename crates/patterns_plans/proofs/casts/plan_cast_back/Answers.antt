use Rattle.std.proofs.Common.{◌∙◌}
use Rattle.std.proofs.lemmas.Result.{IfOk-weaker}
use Rattle.ir_event.specs.Modules.{module_in}
use Rattle.patterns_matchers.specs.Reads.{bare_in, one_in}
use Rattle.patterns_plans.proofs.Recasts.{by_unrealized, by_index}
use Rattle.patterns_plans.proofs.casts.plan_cast_back.Goals as goal

pub returns-then-is_word-clause-edits : goal.returns-then-is_word-clause-edits
returns-then-is_word-clause-edits c =
    IfOk-weaker c.unrealized.result _ _
    (λ a. IfOk-weaker a _ _ (λ plan h n insertion.
    h c.args.node.now n insertion
    ∙ by_unrealized (module_in c.args.world.now).tree n insertion (bare_in c.args.world.now.ctx c.args.op c.args.node.now) (one_in c.args.world.now.ctx c.in-Some.p) c.is_word.result (c.in-Some.ensures.shaped_as c.args.world.now.ctx) c.is_word.ensures c.if-is_word.true))
    c.unrealized.ensures.edits

pub returns-clause-edits : goal.returns-clause-edits
returns-clause-edits c =
    IfOk-weaker c.through_index.result _ _
    (λ a. IfOk-weaker a _ _ (λ plan h n insertion.
    h c.args.node.now n insertion
    ∙ by_index (module_in c.args.world.now).tree n insertion (bare_in c.args.world.now.ctx c.args.op c.args.node.now) (one_in c.args.world.now.ctx c.in-Some.p) c.is_word.result c.is_index_cast.result (c.in-Some.ensures.shaped_as c.args.world.now.ctx) c.is_word.ensures c.if-is_word.false c.is_index_cast.ensures c.if-not-is_index_cast.false))
    c.through_index.ensures.edits
