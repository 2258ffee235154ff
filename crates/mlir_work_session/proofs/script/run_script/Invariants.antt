use Rattle.std.proofs.Common.{◌++◌, ◌+◌, ◌≤◌, List, ℕ, length, ◌≡◌}
use Rattle.mlir_work_script_base.specs.Writes.{Grows}
use Rattle.mlir_work_script_base.specs.Lines.{lines_of}
use Rattle.mlir_work_transforms.specs.rewriter.RewriterCalls.{AgreesOrStale}
use Rattle.mlir_work_session.specs.Output.{Runs, session_setting, worse}
use Rattle.mlir_work_session.specs.Sittings.{sitting_of}
use Rattle.mlir_work_session.proofs.script.run_script.Given as goal

-- the bytes written so far, followed by any output of the remaining lines, are an output of the script
abbrev pub invariant-loop-text : goal.invariant-loop-text
invariant-loop-text g l = let meaning = g.L.Analysis.meaning in record {
  kept : AgreesOrStale meaning l.bench;
  mode : l.bench.transaction.ctx.opaque ≡ l.session_options.opaque;
  count : l.n + length l.text ≤ 1 + length l.script;
  preceding : List ℕ;
  wrote : Grows (g.W.Sink.stream l.initial.writer) (g.W.Sink.stream l.writer) preceding;
  whole : (later : ℕ) (rest : List ℕ) → Runs (session_setting g.L.AnalysisSource.supply l.session_options) l.n (sitting_of meaning l.bench l.registry) (lines_of l.text) later rest → Runs (session_setting g.L.AnalysisSource.supply l.session_options) 1 (sitting_of meaning l.initial.bench l.initial.registry) (lines_of l.script) (worse l.accepted later) (preceding ++ rest);
}

abbrev pub decreases-loop-text : goal.decreases-loop-text
decreases-loop-text g l = length l.text
