use Rattle.conversion.proofs.VisibleValues.{all_in_order}
use Rattle.conversion.proofs.bench.BenchConversionRewriter.operations.Goals as goal

pub returns : goal.returns
returns g c = all_in_order c.world.result.now c.args.self.now.transaction c.world.ensures.ctx c.world.ensures.store c.operations.result c.operations.ensures.listed
