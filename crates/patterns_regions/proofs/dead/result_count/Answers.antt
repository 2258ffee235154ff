use Rattle.std.proofs.Common.{ap, length, arith}
use Rattle.effects.proofs.Unused.{few_results}
use Rattle.patterns_regions.proofs.dead.result_count.Goals as goal

pub overflow_cast-result : goal.overflow_cast-result
overflow_cast-result c =
    let few = few_results c.args.world.now c.args.op c.in-Some.node c.in-Some.ensures.node in
    let same = ap length c.results.ensures in
    omega (arith, few, same)
