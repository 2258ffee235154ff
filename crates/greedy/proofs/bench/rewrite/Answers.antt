use Rattle.patterns.specs.runs.Interning.{IsFull}
use Rattle.patterns.specs.rewriter.RewriterCalls.{state_of}
use Rattle.greedy.specs.Ruled.{pattern_set_of}
use Rattle.greedy.proofs.Changing.{changes_by, full_by}
use Rattle.greedy.proofs.bench.rewrite.Goals as goal

pub returns-clause-does : goal.returns-clause-does
returns-clause-does g c =
    changes_by g.L.Analysis.meaning (pattern_set_of c.args.pattern_set.now) c.args.limit c.args.bench.now c.run.new.bench c.run.result (IsFull c.run.new.bench.transaction.ctx) c.run.ensures.ok c.run.ensures.err c.run.ensures.refused c.run.ensures.marks
    (c.led_benches_are_kept.ensures.ages c.args.bench.now c.run.new.bench (c.run.ensures.onward.led c.is_wellformed.ensures.context.holds).1)

pub returns-clause-headroom : goal.returns-clause-headroom
returns-clause-headroom g c = full_by (pattern_set_of c.args.pattern_set.now) c.args.limit (state_of g.L.Analysis.meaning c.args.bench.now) c.run.result (IsFull c.run.new.bench.transaction.ctx) c.run.ensures.refused
