use Rattle.conversion.specs.patterns.runs.Interning.{IsFull}
use Rattle.conversion.specs.rewriter.RewriterCalls.{state_of}
use Rattle.greedy.proofs.Changing.{run_changes, run_full}
use Rattle.mlir_work_transforms.specs.At.{canonicalization_at}
use Rattle.mlir_work_transforms.proofs.AtRuns.{no_limit}
use Rattle.mlir_work_transforms.proofs.at.canonicalize_at.Goals as goal

pub returns-clause-does : goal.returns-clause-does
returns-clause-does g c =
    run_changes (canonicalization_at c.args.limit c.args.op) c.args.limit (no_limit c.args.op c.args.limit) g.L.Analysis.meaning c.args.bench.now c.rewrites.new.bench c.rewrites.result (IsFull c.rewrites.new.bench.transaction.ctx) c.rewrites.ensures.ok c.rewrites.ensures.err c.rewrites.ensures.refused c.rewrites.ensures.marks
    (c.led_benches_are_kept.ensures.ages c.args.bench.now c.rewrites.new.bench (c.rewrites.ensures.onward.led c.is_wellformed.ensures.context.holds).1)

pub returns-clause-headroom : goal.returns-clause-headroom
returns-clause-headroom g c = run_full (canonicalization_at c.args.limit c.args.op) c.args.limit (no_limit c.args.op c.args.limit) (state_of g.L.Analysis.meaning c.args.bench.now) c.rewrites.result (IsFull c.rewrites.new.bench.transaction.ctx) c.rewrites.ensures.refused
