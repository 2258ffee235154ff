use Rattle.ir_event.proofs.Steps.{wellformed_meaning}
use Rattle.conversion.proofs.bench.BenchConversionRewriter.is_whole.Goals as goal

pub returns : goal.returns
returns g c = wellformed_meaning c.args.self.now.transaction.ctx c.args.self.now.transaction.store.module_of c.is_wellformed.ensures.wellformed
