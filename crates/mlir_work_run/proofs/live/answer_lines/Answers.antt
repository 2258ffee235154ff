use Rattle.mlir_work_session.specs.Registry.{registry_model}
use Rattle.std.proofs.Common.{◌≡◌, ◌≤◌, ◌∙◌, ◌+◌, ◌^◌, Err, ap, arith, length, refl, sym}
use Rattle.mlir_work_run.specs.Feeding.{waiting}
use Rattle.mlir_work_session.specs.Sittings.{sitting_of}
use Rattle.mlir_work_session.specs.Limits.{most_script_bytes}
use Rattle.mlir_work_session.specs.declared.options.SessionOptions.{SessionOptions}
use Rattle.mlir_work_session.proofs.Runs.{one_number}
use Rattle.mlir_work_run.specs.Whole.{setting_with}
use Rattle.mlir_work_run.proofs.Lives.{leaves_after, leaves_end, leaves_halts, lived_cut, lived_end, lived_halts, lived_huge, lived_none, lived_step}
use Rattle.mlir_work_run.proofs.live.answer_lines.Goals as goal

pub lines-init : goal.lines-init
lines-init g c = record {
  kept = c.requires.kept;
  mode = c.requires.mode;
  handed = c.requires.handed;
  count = (let trailing = c.requires.trailing in omega (arith, trailing));
  wrote = refl;
  failed = refl;
  lived = lived_none (setting_with g.L.AnalysisSource.supply c.args.options (registry_model c.args.registry.now)) c.args.before (sitting_of g.L.Analysis.meaning c.args.bench.now c.args.registry.now) (waiting c.args.kept.now.items (g.R.Source.intake c.args.reader.now).remaining) (g.W.Sink.stream c.args.writer.now);
}

pub returns-in-Ok-None-clause-ended : goal.returns-in-Ok-None-clause-ended
returns-in-Ok-None-clause-ended g c = lived_end (setting_with g.L.AnalysisSource.supply c.args.options (registry_model c.args.registry.now)) c.args.before (sitting_of g.L.Analysis.meaning c.args.bench.now c.args.registry.now) (waiting c.args.kept.now.items (g.R.Source.intake c.args.reader.now).remaining) (waiting c.lines.kept.items (g.R.Source.intake c.lines.reader).remaining) c.lines.read c.lines.n (sitting_of g.L.Analysis.meaning c.lines.bench c.lines.registry) c.lines.accepted (g.W.Sink.handed c.lines.writer) c.status_of.result (g.W.Sink.stream c.args.writer.now) (g.W.Sink.stream c.lines.writer) c.lines.invariant.lived (c.in-Ok-None.ensures.end c.in-Ok-None.field-0-is) c.lines.invariant.handed c.status_of.ensures

pub returns-in-Err-clause-ended : goal.returns-in-Err-clause-ended
unfolding most_script_bytes
returns-in-Err-clause-ended g c = lived_halts (setting_with g.L.AnalysisSource.supply c.args.options (registry_model c.args.registry.now)) c.args.before (sitting_of g.L.Analysis.meaning c.args.bench.now c.args.registry.now) (waiting c.args.kept.now.items (g.R.Source.intake c.args.reader.now).remaining) (waiting c.lines.kept.items (g.R.Source.intake c.lines.reader).remaining) c.lines.read c.lines.n (sitting_of g.L.Analysis.meaning c.lines.bench c.lines.registry) c.lines.accepted (g.W.Sink.handed c.lines.writer) (g.W.Sink.stream c.args.writer.now) (g.W.Sink.stream c.lines.writer) c.in-Err.stop c.halt_of.result c.lines.invariant.lived c.lines.invariant.handed c.halt_of.ensures c.in-Err.ensures.many

pub returns-in_default-clause-ended : goal.returns-in_default-clause-ended
returns-in_default-clause-ended g c =
    let line = c.in-Ok-Some.line.items in
    let huge : 2 ^ 64 ≤ c.lines.read + length line = (let long = c.len.ensures in omega (arith, c.in_default.ensures, long)) in
    lived_huge (setting_with g.L.AnalysisSource.supply c.args.options (registry_model c.args.registry.now)) c.args.before (sitting_of g.L.Analysis.meaning c.args.bench.now c.args.registry.now) (waiting c.args.kept.now.items (g.R.Source.intake c.args.reader.now).remaining) (waiting c.lines.kept.items (g.R.Source.intake c.lines.reader).remaining) (waiting c.take_line.new.kept.items (g.R.Source.intake c.take_line.new.reader).remaining)
    c.lines.read c.lines.n (sitting_of g.L.Analysis.meaning c.lines.bench c.lines.registry) c.lines.accepted (g.W.Sink.handed c.lines.writer) (g.W.Sink.stream c.args.writer.now) (g.W.Sink.stream c.lines.writer) line c.lines.invariant.lived
    (rw c.in-Ok-Some.field-0-is at c.in-Ok-Some.ensures.line) (rw c.in-Ok-Some.field-0-is at c.in-Ok-Some.ensures.some) huge c.lines.invariant.handed

pub returns-in-Ok-None-clause-leaves : goal.returns-in-Ok-None-clause-leaves
returns-in-Ok-None-clause-leaves g c = leaves_end (g.R.Source.intake c.args.reader.now) (g.R.Source.intake c.take_line.new.reader) (g.W.Sink.stream c.args.writer.now) (g.W.Sink.stream c.lines.writer) (g.W.Sink.handed c.lines.writer) c.lines.accepted c.status_of.result c.status_of.ensures (c.in-Ok-None.ensures.failed ∙ c.lines.invariant.failed) c.lines.invariant.wrote c.lines.invariant.handed

pub returns-in-Err-clause-leaves : goal.returns-in-Err-clause-leaves
returns-in-Err-clause-leaves g c =
    let here = leaves_halts (g.R.Source.intake c.lines.reader) (g.R.Source.intake c.take_line.new.reader) (g.W.Sink.stream c.lines.writer) (g.W.Sink.stream c.lines.writer) (g.W.Sink.handed c.lines.writer) c.in-Err.stop c.halt_of.result c.halt_of.ensures c.in-Err.ensures.broken refl c.lines.invariant.handed in
    leaves_after (g.R.Source.intake c.args.reader.now) (g.R.Source.intake c.lines.reader) (g.R.Source.intake c.take_line.new.reader) (g.W.Sink.stream c.args.writer.now) (g.W.Sink.stream c.lines.writer) (g.W.Sink.stream c.lines.writer) (g.W.Sink.handed c.lines.writer) (Err c.halt_of.result) c.lines.invariant.failed c.lines.invariant.wrote here

pub returns-in_default-clause-leaves : goal.returns-in_default-clause-leaves
returns-in_default-clause-leaves g c = (c.in-Ok-Some.ensures.failed ∙ c.lines.invariant.failed, c.lines.invariant.wrote, c.lines.invariant.handed)

pub returns-in-Err-live_step-clause-leaves : goal.returns-in-Err-live_step-clause-leaves
returns-in-Err-live_step-clause-leaves g c = (c.in-Ok-Some.ensures.failed ∙ c.lines.invariant.failed, c.in-Err-live_step.ensures.answered.3.1)

pub returns-in-Err-live_step-clause-ended : goal.returns-in-Err-live_step-clause-ended
unfolding most_script_bytes
returns-in-Err-live_step-clause-ended g c =
    let line = c.in-Ok-Some.line.items in
    let reported = c.in-Err-live_step.ensures.answered in
    let is : c.in-Some.more ≡ c.lines.read + length line = (let sum = c.in-Some.ensures in let long = c.len.ensures in omega (arith, sum, long)) in
    lived_cut (setting_with g.L.AnalysisSource.supply c.args.options (registry_model c.args.registry.now)) c.args.before (sitting_of g.L.Analysis.meaning c.args.bench.now c.args.registry.now) (waiting c.args.kept.now.items (g.R.Source.intake c.args.reader.now).remaining) (waiting c.lines.kept.items (g.R.Source.intake c.lines.reader).remaining) (waiting c.take_line.new.kept.items (g.R.Source.intake c.take_line.new.reader).remaining)
    c.lines.read c.in-Some.more c.lines.n (sitting_of g.L.Analysis.meaning c.lines.bench c.lines.registry) (sitting_of g.L.Analysis.meaning c.live_step.new.bench c.live_step.new.registry) c.lines.accepted (g.W.Sink.handed c.live_step.new.writer) (g.W.Sink.stream c.args.writer.now) (g.W.Sink.stream c.lines.writer) (g.W.Sink.stream c.live_step.new.writer) line reported.1 reported.0 c.lines.invariant.lived
    (rw c.in-Ok-Some.field-0-is at c.in-Ok-Some.ensures.line) (rw c.in-Ok-Some.field-0-is at c.in-Ok-Some.ensures.some) (rw c.in-Ok-Some.field-0-is at c.in-Ok-Some.ensures.short) is (rw (c.session_options_of-session_options.ensures, c.deref.ensures.value) at reported.2) reported.3

pub lines-preserved : goal.lines-preserved
unfolding most_script_bytes
lines-preserved g c =
    let line = c.in-Ok-Some.line.items in
    let reported = c.in-Ok.ensures.answered in
    let some = rw c.in-Ok-Some.field-0-is at c.in-Ok-Some.ensures.some in
    let is : c.in-Some.more ≡ c.lines.read + length line = (let sum = c.in-Some.ensures in let long = c.len.ensures in omega (arith, sum, long)) in
    record {
      kept = c.live_step.ensures.kept;
      mode = c.live_step.ensures.mode ∙ c.lines.invariant.mode;
      handed = c.in-Ok.ensures.handed;
      wrote = reported.2.1 ∙ c.lines.invariant.wrote;
      count = (let had = c.lines.invariant.count in let one = one_number c.lines.n c.in-Ok.reported in let next = c.next_number-n.ensures in omega (arith, had, one, next, is, some));
      failed = c.in-Ok-Some.ensures.failed ∙ c.lines.invariant.failed;
      lived = rw (c.next_number-n.ensures, c.accepted_so_far-accepted.ensures) (lived_step (setting_with g.L.AnalysisSource.supply c.args.options (registry_model c.args.registry.now)) c.args.before (sitting_of g.L.Analysis.meaning c.args.bench.now c.args.registry.now) (waiting c.args.kept.now.items (g.R.Source.intake c.args.reader.now).remaining) (waiting c.lines.kept.items (g.R.Source.intake c.lines.reader).remaining) (waiting c.take_line.new.kept.items (g.R.Source.intake c.take_line.new.reader).remaining)
          c.lines.read c.in-Some.more c.lines.n (sitting_of g.L.Analysis.meaning c.lines.bench c.lines.registry) (sitting_of g.L.Analysis.meaning c.live_step.new.bench c.live_step.new.registry) c.lines.accepted (g.W.Sink.stream c.args.writer.now) (g.W.Sink.stream c.lines.writer) (g.W.Sink.stream c.live_step.new.writer) line reported.0 c.in-Ok.reported c.lines.invariant.lived
          (rw c.in-Ok-Some.field-0-is at c.in-Ok-Some.ensures.line) some (rw c.in-Ok-Some.field-0-is at c.in-Ok-Some.ensures.short) is (rw (c.session_options_of-session_options.ensures, c.deref.ensures.value) at reported.1) reported.2);
    }

pub live_step-requires-clause-mode : goal.live_step-requires-clause-mode
live_step-requires-clause-mode g c = c.lines.invariant.mode ∙ sym (ap (λ (m : SessionOptions). m.opaque) c.session_options_of-session_options.ensures)
