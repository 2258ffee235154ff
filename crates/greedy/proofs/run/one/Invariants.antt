use Rattle.std.proofs.Common.{◌≡◌}
use Rattle.patterns.specs.runs.Runs.{Noted}
use Rattle.greedy.specs.Ruled.{model_of}
use Rattle.greedy.specs.Work.{Right, left}
use Rattle.greedy.proofs.run.one.Given as goal

abbrev pub invariant-waiting : goal.invariant-waiting
invariant-waiting g l =
    (g.R.GreedyRewriter.held l.bench ≡ g.R.GreedyRewriter.held l.fn.bench)
    × ((g.R.GreedyRewriter.marks l.bench ≡ g.R.GreedyRewriter.marks l.fn.bench)
    × (Right (model_of l.fn.entries) l.work.passed l.work.again.items (g.R.GreedyRewriter.held l.fn.bench)
    × (g.R.GreedyRewriter.onward l.fn.bench l.bench
    × (Noted (g.R.GreedyRewriter.transaction l.fn.bench) (g.R.GreedyRewriter.transaction l.bench)
    × (l.last ≡ l.work.passed)))))

abbrev pub decreases-waiting : goal.decreases-waiting
decreases-waiting g l = left l.work.passed l.work.again.items (g.R.GreedyRewriter.held l.fn.bench).tree
