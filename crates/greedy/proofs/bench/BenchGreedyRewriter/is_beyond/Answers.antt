use Rattle.std.proofs.Common.{subst}
use Rattle.ir_event.specs.store.Stored.{Stored}
use Rattle.greedy.specs.Orders.{IsBeyond}
use Rattle.greedy.proofs.Benches.{held_beyond}
use Rattle.greedy.proofs.bench.BenchGreedyRewriter.is_beyond.Goals as goal

pub returns : goal.returns
returns g c = λ e. held_beyond c.args.self.now.transaction c.args.op c.args.other (subst (λ (s : Stored). IsBeyond c.args.op c.args.other s.module_of.tree) c.world.ensures.store (c.is_beyond.ensures e))
