use Rattle.mlir_work_session.specs.Registry.{registry_model}
use Rattle.std.proofs.Common.{◌≡◌, ◌≤◌, ◌+◌, ◌-◌, true}
use Rattle.mlir_work_run.specs.Feeding.{waiting}
use Rattle.mlir_work_session.specs.RewriterCalls.{AgreesOrStale}
use Rattle.mlir_work_session.specs.Sittings.{sitting_of}
use Rattle.mlir_work_run.specs.Whole.{setting_with}
use Rattle.mlir_work_run.proofs.Lives.{Lived}
use Rattle.mlir_work_run.proofs.live.answer_lines.Given as goal

-- the answers to the lines so far were written and flushed, and the answers to further lines may follow
abbrev pub invariant-lines : goal.invariant-lines
invariant-lines g l = record {
  kept : AgreesOrStale g.L.Analysis.meaning l.bench;
  mode : l.bench.transaction.ctx.opaque ≡ l.options.opaque;
  handed : g.W.Sink.handed l.writer ≡ true;
  count : l.n + 8 ≤ l.read;
  wrote : (g.W.Sink.stream l.writer).failed ≡ (g.W.Sink.stream l.initial.writer).failed;
  failed : (g.R.Source.intake l.reader).failed ≡ (g.R.Source.intake l.initial.reader).failed;
  lived : Lived (setting_with g.L.AnalysisSource.supply l.options (registry_model l.initial.registry)) l.before (sitting_of g.L.Analysis.meaning l.initial.bench l.initial.registry) (waiting l.initial.kept.items (g.R.Source.intake l.initial.reader).remaining) (waiting l.kept.items (g.R.Source.intake l.reader).remaining) l.read l.n (sitting_of g.L.Analysis.meaning l.bench l.registry) l.accepted (g.W.Sink.stream l.initial.writer) (g.W.Sink.stream l.writer);
}

abbrev pub decreases-lines : goal.decreases-lines
decreases-lines g l = 18446744073709551616 - l.read
