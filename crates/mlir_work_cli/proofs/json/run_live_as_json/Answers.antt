use Rattle.std.proofs.Common.{◌++◌, ◌+◌, ℕ, Vec, Global, false, length, map, sym, ap, ◌∙◌, inr}
use Rattle.mlir_work_run.specs.session.Panels.{all_shown}
use Rattle.mlir_work_run.specs.session.Parts.{module_text, script_text}
use Rattle.mlir_work_run.specs.session.Registry.{registry_model}
use Rattle.mlir_work_run.specs.Live.{IsLiveOf, IsWholeUpTo, divider_bytes, whole_lines}
use Rattle.mlir_work_run.specs.Whole.{setting_with}
use Rattle.mlir_work_json.specs.Printing.{text_of}
use Rattle.mlir_work_cli.proofs.JsonEnds.{broken_reports, if_broken, if_out_of_memory, if_printed, no_text, printed_fault}
use Rattle.mlir_work_cli.proofs.json.run_live_as_json.Goals as goal

-- memory ran out for an object
pub returns-then-refused-clause-live : goal.returns-then-refused-clause-live
returns-then-refused-clause-live g c watched =
    let items = λ (l : Vec ℕ Global). l.items in
    let start = c.new-printer.result in
    let end = c.run_live-ran.new.writer in
    rw c.new-printer.ensures.start at
    (if_out_of_memory (g.R.Source.intake c.args.reader.now).remaining
    (IsLiveOf (setting_with g.L.AnalysisSource.supply c.args.options (registry_model c.args.registry)) (all_shown g.L.Analysis.meaning c.args.boxes.items))
    (λ input. length (module_text input) + divider_bytes) (λ input. whole_lines (script_text input)) (g.R.Source.intake c.run_live-ran.new.reader)
    (g.W.Sink.stream start.start.value) (g.W.Sink.stream end.start.value) (g.W.Sink.stream c.into_inner-writer.result)
    (map items end.lines.items) end.line.items (text_of (map items start.lines.items) ++ start.line.items) start.failed end.failed (g.W.Sink.handed end.inner) end.broken (g.W.Sink.handed c.into_inner-writer.result) c.run_live-ran.result
    (no_text items start.lines.items start.line.items c.new-printer.ensures.lines c.new-printer.ensures.line) c.into_inner-writer.ensures.cut (sym c.is_broken.ensures ∙ c.if-is_broken.true) c.run_live-ran.ensures.live)

pub returns-then-refused-clause-whole : goal.returns-then-refused-clause-whole
returns-then-refused-clause-whole g c watched =
    let items = λ (l : Vec ℕ Global). l.items in
    let start = c.new-printer.result in
    let end = c.run_live-ran.new.writer in
    rw c.new-printer.ensures.start at
    (if_out_of_memory (g.R.Source.intake c.args.reader.now).remaining
    (IsWholeUpTo (setting_with g.L.AnalysisSource.supply c.args.options (registry_model c.args.registry)) (all_shown g.L.Analysis.meaning c.args.boxes.items))
    (λ input. length (module_text input) + divider_bytes) (λ input. whole_lines (script_text input)) (g.R.Source.intake c.run_live-ran.new.reader)
    (g.W.Sink.stream start.start.value) (g.W.Sink.stream end.start.value) (g.W.Sink.stream c.into_inner-writer.result)
    (map items end.lines.items) end.line.items (text_of (map items start.lines.items) ++ start.line.items) start.failed end.failed (g.W.Sink.handed end.inner) end.broken (g.W.Sink.handed c.into_inner-writer.result) c.run_live-ran.result
    (no_text items start.lines.items start.line.items c.new-printer.ensures.lines c.new-printer.ensures.line) c.into_inner-writer.ensures.cut (sym c.is_broken.ensures ∙ c.if-is_broken.true) c.run_live-ran.ensures.whole)

-- a write failed
pub returns-then-is_broken-clause-live : goal.returns-then-is_broken-clause-live
returns-then-is_broken-clause-live g c watched =
    let items = λ (l : Vec ℕ Global). l.items in
    let start = c.new-printer.result in
    let end = c.run_live-ran.new.writer in
    let is = sym c.is_broken.ensures ∙ c.if-is_broken.true in
    let failed = broken_reports (g.W.Sink.stream end.start.value) (g.W.Sink.stream c.into_inner-writer.result) end.failed end.broken end.refused is (sym c.has_refused-refused.ensures ∙ c.if-refused.false) c.into_inner-writer.ensures.write in
    rw c.new-printer.ensures.start at
    (if_broken (g.R.Source.intake c.args.reader.now).remaining
    (IsLiveOf (setting_with g.L.AnalysisSource.supply c.args.options (registry_model c.args.registry)) (all_shown g.L.Analysis.meaning c.args.boxes.items))
    (λ input. length (module_text input) + divider_bytes) (λ input. whole_lines (script_text input)) (g.R.Source.intake c.run_live-ran.new.reader)
    (g.W.Sink.stream start.start.value) (g.W.Sink.stream end.start.value) (g.W.Sink.stream c.into_inner-writer.result)
    (map items end.lines.items) end.line.items (text_of (map items start.lines.items) ++ start.line.items) start.failed end.failed (g.W.Sink.handed end.inner) end.broken (g.W.Sink.handed c.into_inner-writer.result) c.run_live-ran.result
    (no_text items start.lines.items start.line.items c.new-printer.ensures.lines c.new-printer.ensures.line) c.into_inner-writer.ensures.cut is failed c.run_live-ran.ensures.live)

pub returns-then-is_broken-clause-whole : goal.returns-then-is_broken-clause-whole
returns-then-is_broken-clause-whole g c watched =
    let items = λ (l : Vec ℕ Global). l.items in
    let start = c.new-printer.result in
    let end = c.run_live-ran.new.writer in
    let is = sym c.is_broken.ensures ∙ c.if-is_broken.true in
    let failed = broken_reports (g.W.Sink.stream end.start.value) (g.W.Sink.stream c.into_inner-writer.result) end.failed end.broken end.refused is (sym c.has_refused-refused.ensures ∙ c.if-refused.false) c.into_inner-writer.ensures.write in
    rw c.new-printer.ensures.start at
    (if_broken (g.R.Source.intake c.args.reader.now).remaining
    (IsWholeUpTo (setting_with g.L.AnalysisSource.supply c.args.options (registry_model c.args.registry)) (all_shown g.L.Analysis.meaning c.args.boxes.items))
    (λ input. length (module_text input) + divider_bytes) (λ input. whole_lines (script_text input)) (g.R.Source.intake c.run_live-ran.new.reader)
    (g.W.Sink.stream start.start.value) (g.W.Sink.stream end.start.value) (g.W.Sink.stream c.into_inner-writer.result)
    (map items end.lines.items) end.line.items (text_of (map items start.lines.items) ++ start.line.items) start.failed end.failed (g.W.Sink.handed end.inner) end.broken (g.W.Sink.handed c.into_inner-writer.result) c.run_live-ran.result
    (no_text items start.lines.items start.line.items c.new-printer.ensures.lines c.new-printer.ensures.line) c.into_inner-writer.ensures.cut is failed c.run_live-ran.ensures.whole)

pub returns-then-is_broken-clause-fault : goal.returns-then-is_broken-clause-fault
returns-then-is_broken-clause-fault g c four =
    let end = c.run_live-ran.new.writer in
    inr (broken_reports (g.W.Sink.stream end.start.value) (g.W.Sink.stream c.into_inner-writer.result) end.failed end.broken end.refused (sym c.is_broken.ensures ∙ c.if-is_broken.true) (sym c.has_refused-refused.ensures ∙ c.if-refused.false) c.into_inner-writer.ensures.write)

-- the end
pub returns-clause-live : goal.returns-clause-live
returns-clause-live g c watched =
    let items = λ (l : Vec ℕ Global). l.items in
    let start = c.new-printer.result in
    let end = c.run_live-ran.new.writer in
    rw c.new-printer.ensures.start at
    (if_printed (g.R.Source.intake c.args.reader.now).remaining
    (IsLiveOf (setting_with g.L.AnalysisSource.supply c.args.options (registry_model c.args.registry)) (all_shown g.L.Analysis.meaning c.args.boxes.items))
    (λ input. length (module_text input) + divider_bytes) (λ input. whole_lines (script_text input)) (g.R.Source.intake c.run_live-ran.new.reader)
    (g.W.Sink.stream start.start.value) (g.W.Sink.stream end.start.value) (g.W.Sink.stream c.finish-printed.result.1)
    (text_of (map items start.lines.items) ++ start.line.items) (text_of (map items end.lines.items)) end.line.items start.failed end.failed (g.W.Sink.handed end.inner) end.broken (g.W.Sink.handed c.finish-printed.result.1)
    c.run_live-ran.result c.ended_live.result c.finish-printed.result.0
    (no_text items start.lines.items start.line.items c.new-printer.ensures.lines c.new-printer.ensures.line) (ap (λ w. (g.W.Sink.stream w).failed) c.new-printer.ensures.start ∙ watched)
    c.finish-printed.ensures.unreported c.finish-printed.ensures.printed c.finish-printed.ensures.handed c.finish-printed.ensures.empty c.ended_live.ensures c.run_live-ran.ensures.live)

pub returns-clause-whole : goal.returns-clause-whole
returns-clause-whole g c watched =
    let items = λ (l : Vec ℕ Global). l.items in
    let start = c.new-printer.result in
    let end = c.run_live-ran.new.writer in
    rw c.new-printer.ensures.start at
    (if_printed (g.R.Source.intake c.args.reader.now).remaining
    (IsWholeUpTo (setting_with g.L.AnalysisSource.supply c.args.options (registry_model c.args.registry)) (all_shown g.L.Analysis.meaning c.args.boxes.items))
    (λ input. length (module_text input) + divider_bytes) (λ input. whole_lines (script_text input)) (g.R.Source.intake c.run_live-ran.new.reader)
    (g.W.Sink.stream start.start.value) (g.W.Sink.stream end.start.value) (g.W.Sink.stream c.finish-printed.result.1)
    (text_of (map items start.lines.items) ++ start.line.items) (text_of (map items end.lines.items)) end.line.items start.failed end.failed (g.W.Sink.handed end.inner) end.broken (g.W.Sink.handed c.finish-printed.result.1)
    c.run_live-ran.result c.ended_live.result c.finish-printed.result.0
    (no_text items start.lines.items start.line.items c.new-printer.ensures.lines c.new-printer.ensures.line) (ap (λ w. (g.W.Sink.stream w).failed) c.new-printer.ensures.start ∙ watched)
    c.finish-printed.ensures.unreported c.finish-printed.ensures.printed c.finish-printed.ensures.handed c.finish-printed.ensures.empty c.ended_live.ensures c.run_live-ran.ensures.whole)

pub returns-clause-fault : goal.returns-clause-fault
returns-clause-fault g c =
    let items = λ (l : Vec ℕ Global). l.items in
    let start = c.new-printer.result in
    let end = c.run_live-ran.new.writer in
    printed_fault (g.R.Source.intake c.run_live-ran.new.reader) (g.W.Sink.stream c.args.writer) (g.W.Sink.stream end.start.value) (g.W.Sink.stream c.finish-printed.result.1)
    (text_of (map items start.lines.items) ++ start.line.items) (text_of (map items end.lines.items) ++ end.line.items) end.failed c.run_live-ran.result c.ended_live.result c.finish-printed.result.0 c.finish-printed.ensures.unreported c.finish-printed.ensures.printed c.ended_live.ensures c.run_live-ran.ensures.fault
