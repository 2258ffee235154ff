use Rattle.std.proofs.Common.{◌∙◌, sym}
use Rattle.ir_event.specs.Modules.{module_in}
use Rattle.patterns_plans.proofs.Headed.{none_dead, one_dead}
use Rattle.patterns_regions.proofs.Tested.{dead_tested, dead_unused, effects_tested, used_tested}
use Rattle.patterns_regions.proofs.dead.plan_erase_dead.Goals as goal

pub returns-then-dead_op-clause-edits : goal.returns-then-dead_op-clause-edits
returns-then-dead_op-clause-edits c o f n insertion =
    one_dead c.args.op (module_in c.args.world.now).tree o c.dead_op.result c.dead_op.ensures c.if-dead_op.true f n insertion

pub returns-then-dead_op-clause-reason : goal.returns-then-dead_op-clause-reason
returns-then-dead_op-clause-reason c =
    let t = (module_in c.args.world.now).tree in
    dead_tested c.args.op t (dead_unused c.args.op t (sym c.dead_op.ensures ∙ c.if-dead_op.true))

pub returns-then-is_unused-clause-edits : goal.returns-then-is_unused-clause-edits
returns-then-is_unused-clause-edits c o f n insertion =
    none_dead c.args.op (module_in c.args.world.now).tree o c.dead_op.result c.dead_op.ensures c.if-dead_op.false f n insertion

pub returns-then-is_unused-clause-reason : goal.returns-then-is_unused-clause-reason
returns-then-is_unused-clause-reason c =
    effects_tested c.args.op (module_in c.args.world.now).tree (sym c.is_unused.ensures ∙ c.if-is_unused.true)

pub returns-clause-edits : goal.returns-clause-edits
returns-clause-edits c o f n insertion =
    none_dead c.args.op (module_in c.args.world.now).tree o c.dead_op.result c.dead_op.ensures c.if-dead_op.false f n insertion

pub returns-clause-reason : goal.returns-clause-reason
returns-clause-reason c = used_tested c.args.op (module_in c.args.world.now).tree (sym c.is_unused.ensures ∙ c.if-is_unused.false)
