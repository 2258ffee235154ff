use Rattle.conversion.proofs.VisibleValues.{next_free}
use Rattle.conversion.proofs.bench.BenchConversionRewriter.next_id.Goals as goal

pub returns : goal.returns
returns g c = next_free c.world.result.now c.args.self.now.transaction c.world.ensures.ctx c.world.ensures.store c.next_id.result c.next_id.ensures
