use Rattle.std.proofs.Common.{◌∙◌, Ok, Err, ap, refl}
use Rattle.mlir_work_run.specs.Feeding.{waiting}
use Rattle.mlir_work_session.specs.RewriterCalls.{state_of}
use Rattle.mlir_work_session.specs.Held.{module_held}
use Rattle.mlir_work_session.specs.Panels.{all_shown}
use Rattle.mlir_work_session.specs.Registry.{registry_model}
use Rattle.mlir_work_run.specs.Whole.{setting_with}
use Rattle.mlir_work_run.proofs.Lives.{begun_cut, after_registry, leaves_after, leaves_worse}
use Rattle.mlir_work_run.proofs.live.answer_in_rewriter.Goals as goal

pub returns-in-Err-clause-ended : goal.returns-in-Err-clause-ended
returns-in-Err-clause-ended g c =
    let begun = c.in-Err.ensures.begun in
    begun_cut (setting_with g.L.AnalysisSource.supply c.args.options (registry_model c.args.registry)) (all_shown g.L.Analysis.meaning c.args.boxes.items) (module_held c.args.bench.now.transaction) c.args.before (waiting c.args.kept.now.items (g.R.Source.intake c.args.reader.now).remaining) begun.0 begun.1 begun.2 (g.W.Sink.stream c.args.writer.now) (g.W.Sink.stream c.begin_live.new.writer) (g.W.Sink.handed c.begin_live.new.writer) begun.3 begun.4

pub returns-in-Ok-answer_lines-clause-ended : goal.returns-in-Ok-answer_lines-clause-ended
returns-in-Ok-answer_lines-clause-ended g c =
    let begun = c.in-Ok.ensures.begun in
    after_registry (setting_with g.L.AnalysisSource.supply c.args.options (registry_model c.args.registry)) (all_shown g.L.Analysis.meaning c.args.boxes.items) (module_held c.args.bench.now.transaction) c.args.before (waiting c.args.kept.now.items (g.R.Source.intake c.args.reader.now).remaining) (state_of g.L.Analysis.meaning c.begin_live.new.bench) (registry_model c.args.registry) c.in-Ok.accepted begun.0 (g.W.Sink.stream c.args.writer.now) (g.W.Sink.stream c.begin_live.new.writer) (g.W.Sink.stream c.answer_lines.new.writer) (g.W.Sink.handed c.answer_lines.new.writer) (Ok c.in-Ok-answer_lines.status) (Ok c.worse.result) refl (ap Ok c.worse.ensures) begun.1 begun.2 c.in-Ok-answer_lines.ensures.ended

pub returns-clause-ended : goal.returns-clause-ended
returns-clause-ended g c =
    let begun = c.in-Ok.ensures.begun in
    after_registry (setting_with g.L.AnalysisSource.supply c.args.options (registry_model c.args.registry)) (all_shown g.L.Analysis.meaning c.args.boxes.items) (module_held c.args.bench.now.transaction) c.args.before (waiting c.args.kept.now.items (g.R.Source.intake c.args.reader.now).remaining) (state_of g.L.Analysis.meaning c.begin_live.new.bench) (registry_model c.args.registry) c.in-Ok.accepted begun.0 (g.W.Sink.stream c.args.writer.now) (g.W.Sink.stream c.begin_live.new.writer) (g.W.Sink.stream c.answer_lines.new.writer) (g.W.Sink.handed c.answer_lines.new.writer) (Err c.in-Err-answer_lines.halt) (Err c.in-Err-answer_lines.halt) refl refl begun.1 begun.2 c.in-Err-answer_lines.ensures.ended

pub answer_lines-requires-clause-mode : goal.answer_lines-requires-clause-mode
answer_lines-requires-clause-mode g c = c.begin_live.ensures.mode ∙ c.requires.mode

pub returns-in-Err-clause-leaves : goal.returns-in-Err-clause-leaves
returns-in-Err-clause-leaves g c = (refl, c.in-Err.ensures.begun.4.1)

pub returns-in-Ok-answer_lines-clause-leaves : goal.returns-in-Ok-answer_lines-clause-leaves
returns-in-Ok-answer_lines-clause-leaves g c =
    let here = leaves_worse (g.R.Source.intake c.args.reader.now) (g.R.Source.intake c.answer_lines.new.reader) (g.W.Sink.stream c.begin_live.new.writer) (g.W.Sink.stream c.answer_lines.new.writer) (g.W.Sink.handed c.answer_lines.new.writer) c.in-Ok.accepted c.in-Ok-answer_lines.status c.worse.result c.worse.ensures c.in-Ok-answer_lines.ensures.leaves in
    leaves_after (g.R.Source.intake c.args.reader.now) (g.R.Source.intake c.args.reader.now) (g.R.Source.intake c.answer_lines.new.reader) (g.W.Sink.stream c.args.writer.now) (g.W.Sink.stream c.begin_live.new.writer) (g.W.Sink.stream c.answer_lines.new.writer) (g.W.Sink.handed c.answer_lines.new.writer) (Ok c.worse.result) refl c.in-Ok.ensures.begun.2.1 here

pub returns-clause-leaves : goal.returns-clause-leaves
returns-clause-leaves g c = leaves_after (g.R.Source.intake c.args.reader.now) (g.R.Source.intake c.args.reader.now) (g.R.Source.intake c.answer_lines.new.reader) (g.W.Sink.stream c.args.writer.now) (g.W.Sink.stream c.begin_live.new.writer) (g.W.Sink.stream c.answer_lines.new.writer) (g.W.Sink.handed c.answer_lines.new.writer) (Err c.in-Err-answer_lines.halt) refl c.in-Ok.ensures.begun.2.1 c.in-Err-answer_lines.ensures.leaves
