use Rattle.std.proofs.Common.{◌++◌, ℕ, Vec, Global, map, refl, sym, ap, ◌∙◌}
use Rattle.std.proofs.lemmas.Result.{IfOk-weaker}
use Rattle.mlir_work_run.specs.session.Panels.{all_shown}
use Rattle.mlir_work_run.specs.session.Registry.{registry_model}
use Rattle.mlir_work_run.specs.Whole.{IsOutput, setting_with}
use Rattle.mlir_work_run.proofs.Statuses.{fault_at}
use Rattle.mlir_work_json.specs.Printing.{text_of, text_stream}
use Rattle.mlir_work_cli.proofs.JsonEnds.{cut_leaves, final_leaves, final_sound, final_whole, if_cut, if_final, if_refused, no_text, or_whole, refused_whole}
use Rattle.mlir_work_cli.proofs.json.run_as_json.Goals as goal

-- memory ran out for an object
pub returns-then-refused-clause-ran : goal.returns-then-refused-clause-ran
returns-then-refused-clause-ran g c =
    let items = λ (l : Vec ℕ Global). l.items in
    let start = c.new-printer.result in
    let end = c.run_watched-status.new.writer in
    rw c.new-printer.ensures.start at
    (if_refused (g.R.Source.intake c.args.reader.now).remaining
    (IsOutput (setting_with g.L.AnalysisSource.supply c.args.options (registry_model c.args.registry)) (all_shown g.L.Analysis.meaning c.args.boxes.items))
    (g.W.Sink.stream start.start.value) (g.W.Sink.stream end.start.value) (g.W.Sink.stream c.into_inner-writer.result)
    (map items end.lines.items) end.line.items (text_of (map items start.lines.items) ++ start.line.items) c.run_watched-status.result _
    (no_text items start.lines.items start.line.items c.new-printer.ensures.lines c.new-printer.ensures.line) c.if-status-eq4.true c.into_inner-writer.ensures.cut c.run_watched-status.ensures.ran)

pub returns-then-refused-clause-memory : goal.returns-then-refused-clause-memory
returns-then-refused-clause-memory g c watched =
    let items = λ (l : Vec ℕ Global). l.items in
    let start = c.new-printer.result in
    let end = c.run_watched-status.new.writer in
    refused_whole (g.R.Source.intake c.args.reader.now) (g.R.Source.intake c.run_watched-status.new.reader)
    (g.W.Sink.stream start.start.value) (g.W.Sink.stream end.start.value) (g.W.Sink.stream c.into_inner-writer.result)
    (text_of (map items start.lines.items) ++ start.line.items) (text_of (map items end.lines.items) ++ end.line.items) start.failed end.failed _ end.broken end.refused c.run_watched-status.result
    (no_text items start.lines.items start.line.items c.new-printer.ensures.lines c.new-printer.ensures.line) c.new-printer.ensures.failed
    (ap (λ w. (g.W.Sink.stream w).failed) c.new-printer.ensures.start ∙ watched) c.if-status-eq4.true c.into_inner-writer.ensures.none
    (sym c.has_refused-refused.ensures ∙ c.if-refused.true) c.run_watched-status.ensures.leaves

-- a read or a write failed
pub returns-then-status-eq4-clause-ran : goal.returns-then-status-eq4-clause-ran
returns-then-status-eq4-clause-ran g c =
    let items = λ (l : Vec ℕ Global). l.items in
    let start = c.new-printer.result in
    let end = c.run_watched-status.new.writer in
    rw c.new-printer.ensures.start at
    (if_cut (g.R.Source.intake c.args.reader.now).remaining
    (IsOutput (setting_with g.L.AnalysisSource.supply c.args.options (registry_model c.args.registry)) (all_shown g.L.Analysis.meaning c.args.boxes.items))
    (g.W.Sink.stream start.start.value) (g.W.Sink.stream end.start.value) (g.W.Sink.stream c.into_inner-writer.result)
    (map items end.lines.items) end.line.items (text_of (map items start.lines.items) ++ start.line.items) c.run_watched-status.result
    (no_text items start.lines.items start.line.items c.new-printer.ensures.lines c.new-printer.ensures.line) c.if-status-eq4.true c.into_inner-writer.ensures.cut c.run_watched-status.ensures.ran)

pub returns-then-status-eq4-clause-leaves : goal.returns-then-status-eq4-clause-leaves
returns-then-status-eq4-clause-leaves g c watched =
    let items = λ (l : Vec ℕ Global). l.items in
    let start = c.new-printer.result in
    let end = c.run_watched-status.new.writer in
    rw c.new-printer.ensures.start at
    (cut_leaves (g.R.Source.intake c.args.reader.now) (g.R.Source.intake c.run_watched-status.new.reader)
    (g.W.Sink.stream start.start.value) (g.W.Sink.stream end.start.value) (g.W.Sink.stream c.into_inner-writer.result)
    (text_of (map items start.lines.items) ++ start.line.items) (text_of (map items end.lines.items) ++ end.line.items) start.failed end.failed _ end.broken end.refused (g.W.Sink.handed c.into_inner-writer.result) c.run_watched-status.result
    (no_text items start.lines.items start.line.items c.new-printer.ensures.lines c.new-printer.ensures.line) c.new-printer.ensures.failed
    (ap (λ w. (g.W.Sink.stream w).failed) c.new-printer.ensures.start ∙ watched) c.if-status-eq4.true c.into_inner-writer.ensures.none c.into_inner-writer.ensures.write
    (sym c.has_refused-refused.ensures ∙ c.if-refused.false) c.run_watched-status.ensures.leaves)

pub returns-then-status-eq4-clause-fault : goal.returns-then-status-eq4-clause-fault
returns-then-status-eq4-clause-fault g c watched four =
    fault_at (g.R.Source.intake c.args.reader.now) (g.R.Source.intake c.run_watched-status.new.reader) (g.W.Sink.stream c.args.writer) (g.W.Sink.stream c.into_inner-writer.result) (g.W.Sink.handed c.into_inner-writer.result) 4
    (returns-then-status-eq4-clause-leaves g c watched) refl

-- the end
pub finish-printed-requires : goal.finish-printed-requires
finish-printed-requires g c =
    let items = λ (l : Vec ℕ Global). l.items in
    let start = c.new-printer.result in
    let end = c.run_watched-status.new.writer in
    final_sound (g.R.Source.intake c.args.reader.now) (g.R.Source.intake c.run_watched-status.new.reader)
    (text_stream (g.W.Sink.stream start.start.value) (text_of (map items start.lines.items) ++ start.line.items) start.failed) (text_stream (g.W.Sink.stream end.start.value) (text_of (map items end.lines.items) ++ end.line.items) end.failed)
    (g.W.Sink.handed c.run_watched-status.new.writer.inner) c.run_watched-status.new.writer.broken c.run_watched-status.result c.if-status-eq4.false c.run_watched-status.ensures.leaves

pub returns-clause-ran : goal.returns-clause-ran
returns-clause-ran g c =
    let items = λ (l : Vec ℕ Global). l.items in
    let start = c.new-printer.result in
    let end = c.run_watched-status.new.writer in
    rw c.new-printer.ensures.start at
    (if_final (g.R.Source.intake c.args.reader.now).remaining
    (IsOutput (setting_with g.L.AnalysisSource.supply c.args.options (registry_model c.args.registry)) (all_shown g.L.Analysis.meaning c.args.boxes.items))
    (g.W.Sink.stream start.start.value) (g.W.Sink.stream end.start.value) (g.W.Sink.stream c.finish-printed.result.1)
    (text_of (map items start.lines.items) ++ start.line.items) (text_of (map items end.lines.items) ++ end.line.items) c.run_watched-status.result c.finish-printed.result.0 c.ended.result
    (no_text items start.lines.items start.line.items c.new-printer.ensures.lines c.new-printer.ensures.line) c.if-status-eq4.false c.finish-printed.ensures.printed c.ended.ensures c.run_watched-status.ensures.ran)

pub returns-clause-leaves : goal.returns-clause-leaves
returns-clause-leaves g c watched =
    let items = λ (l : Vec ℕ Global). l.items in
    let start = c.new-printer.result in
    let end = c.run_watched-status.new.writer in
    rw c.new-printer.ensures.start at
    (final_leaves (g.R.Source.intake c.args.reader.now) (g.R.Source.intake c.run_watched-status.new.reader)
    (g.W.Sink.stream start.start.value) (g.W.Sink.stream end.start.value) (g.W.Sink.stream c.finish-printed.result.1)
    (text_of (map items start.lines.items) ++ start.line.items) (text_of (map items end.lines.items) ++ end.line.items) start.failed end.failed (g.W.Sink.handed end.inner) end.broken (g.W.Sink.handed c.finish-printed.result.1)
    c.run_watched-status.result c.finish-printed.result.0 c.ended.result c.new-printer.ensures.failed
    (ap (λ w. (g.W.Sink.stream w).failed) c.new-printer.ensures.start ∙ watched) c.if-status-eq4.false c.finish-printed.ensures.printed c.finish-printed.ensures.handed c.ended.ensures c.run_watched-status.ensures.leaves)

pub returns-clause-fault : goal.returns-clause-fault
returns-clause-fault g c watched =
    IfOk-weaker c.ended.result _ _ (λ status leaves. fault_at (g.R.Source.intake c.args.reader.now) (g.R.Source.intake c.run_watched-status.new.reader) (g.W.Sink.stream c.args.writer) (g.W.Sink.stream c.finish-printed.result.1) (g.W.Sink.handed c.finish-printed.result.1) status leaves)
    (returns-clause-leaves g c watched)

pub returns-clause-memory : goal.returns-clause-memory
returns-clause-memory g c watched =
    let items = λ (l : Vec ℕ Global). l.items in
    let start = c.new-printer.result in
    let end = c.run_watched-status.new.writer in
    let whole = final_whole (g.R.Source.intake c.args.reader.now) (g.R.Source.intake c.run_watched-status.new.reader) (text_stream (g.W.Sink.stream start.start.value) (text_of (map items start.lines.items) ++ start.line.items) start.failed) (text_stream (g.W.Sink.stream end.start.value) (text_of (map items end.lines.items) ++ end.line.items) end.failed) _ c.run_watched-status.result c.if-status-eq4.false c.run_watched-status.ensures.leaves in
    or_whole (g.R.Source.intake c.args.reader.now) (g.R.Source.intake c.run_watched-status.new.reader) c.ended.result whole
