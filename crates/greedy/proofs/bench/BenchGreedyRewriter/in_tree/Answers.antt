use Rattle.std.proofs.Common.{ap, sym, ◌∙◌}
use Rattle.ir_event.specs.store.Stored.{Stored}
use Rattle.ir_event.specs.trees.Ids.{has_id}
use Rattle.greedy.proofs.Benches.{held_has}
use Rattle.greedy.proofs.bench.BenchGreedyRewriter.in_tree.Goals as goal

pub returns : goal.returns
returns g c = c.in_tree.ensures ∙ ap (λ (s : Stored). has_id c.args.op s.module_of.tree) c.world.ensures.store ∙ sym (held_has c.args.self.now.transaction c.args.op)
