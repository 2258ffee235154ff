use Rattle.greedy.proofs.Benches.{held_wellformed}
use Rattle.greedy.proofs.bench.BenchGreedyRewriter.is_wellformed.Goals as goal

pub returns : goal.returns
returns g c = held_wellformed c.args.self.now.transaction c.is_wellformed.ensures.wellformed
