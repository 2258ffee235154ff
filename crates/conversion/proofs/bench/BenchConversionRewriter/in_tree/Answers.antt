use Rattle.conversion.proofs.VisibleValues.{here_or_gone}
use Rattle.conversion.proofs.bench.BenchConversionRewriter.in_tree.Goals as goal

pub returns : goal.returns
returns g c = here_or_gone c.world.result.now c.args.self.now.transaction c.world.ensures.ctx c.world.ensures.store c.args.op c.in_tree.result c.in_tree.ensures
