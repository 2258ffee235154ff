use Rattle.std.proofs.Common.{ap, sym, ◌∙◌}
use Rattle.ir_event.specs.store.Stored.{Stored}
use Rattle.ir_event.specs.tree_laws.Reads.{precedes}
use Rattle.greedy.proofs.Benches.{held_precedes}
use Rattle.greedy.proofs.bench.BenchGreedyRewriter.precedes.Goals as goal

pub returns : goal.returns
returns g c = c.precedes.ensures ∙ ap (λ (s : Stored). precedes c.args.op c.args.other s.module_of.tree) c.world.ensures.store ∙ sym (held_precedes c.args.self.now.transaction c.args.op c.args.other)
