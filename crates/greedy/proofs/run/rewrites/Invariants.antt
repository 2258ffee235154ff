use Rattle.std.proofs.Common.{◌≡◌, ◌≤◌, ◌-◌, ◌++◌, List}
use Rattle.patterns.specs.runs.Runs.{Noted}
use Rattle.greedy.specs.Rewriting.{rewritten_from}
use Rattle.greedy.specs.Ruled.{IsReady, pattern_set_of}
use Rattle.greedy.specs.Tracing.{trace_of}
use Rattle.greedy.specs.declared.applied_rewrite.AppliedRewrite.{AppliedRewrite}
use Rattle.greedy.proofs.run.rewrites.Given as goal

abbrev pub invariant-rewrites : goal.invariant-rewrites
invariant-rewrites g l =
    (rewritten_from (pattern_set_of l.fn.pattern_set) (l.fn.limit - l.count) l.count (g.R.GreedyRewriter.held l.bench) ≡ rewritten_from (pattern_set_of l.fn.pattern_set) l.fn.limit 0 (g.R.GreedyRewriter.held l.fn.bench))
    × ((l.count ≤ l.fn.limit)
    × ((g.R.GreedyRewriter.marks l.bench ≡ g.R.GreedyRewriter.marks l.fn.bench)
    × (IsReady l.fn.pattern_set l.work.passed l.work.again.items (g.R.GreedyRewriter.held l.bench)
    × (g.R.GreedyRewriter.onward l.fn.bench l.bench
    × (Noted (g.R.GreedyRewriter.transaction l.fn.bench) (g.R.GreedyRewriter.transaction l.bench)
    × ((done : List AppliedRewrite) × (g.T.Tracer.traced done l.fn.trace l.trace
    × (trace_of (pattern_set_of l.fn.pattern_set) l.fn.limit (g.R.GreedyRewriter.held l.fn.bench) ≡ done ++ trace_of (pattern_set_of l.fn.pattern_set) (l.fn.limit - l.count) (g.R.GreedyRewriter.held l.bench)))))))))

abbrev pub decreases-rewrites : goal.decreases-rewrites
decreases-rewrites g l = l.fn.limit - l.count
