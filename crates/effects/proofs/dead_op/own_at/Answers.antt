use Rattle.std.proofs.Common.{◌∙◌, arith}
use Rattle.effects.proofs.Reached.{few_regions, regions_counted}
use Rattle.effects.proofs.dead_op.own_at.Goals as goal

pub overflow_cast-result : goal.overflow_cast-result
overflow_cast-result c =
    let few = few_regions c.args.world.now c.args.op c.in-Some.node c.in-Some.ensures.node in
    let count = c.region_count.ensures in
    omega (arith, few, count)

pub returns-clause-regions : goal.returns-clause-regions
returns-clause-regions c = c.region_count.ensures ∙ regions_counted c.args.op c.args.world.now.store.module_of.tree c.in-Some.node c.in-Some.ensures.node
