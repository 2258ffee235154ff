use Rattle.mlir_work_session.specs.Registry.{registry_model}
use Rattle.std.proofs.Common.{◌<◌, ◌≡◌, inl, inr, length, refl, None}
use Rattle.ir_event.specs.types.declared.refusal.Refusal.TheVariants.{Memory}
use Rattle.mlir_work_run.specs.Feeding.{waiting}
use Rattle.mlir_work_session.specs.Limits.{most_input_bytes}
use Rattle.mlir_work_session.specs.Panels.{all_shown}
use Rattle.mlir_work_run.specs.Whole.{IsRefusal, construct_if, setting_with}
use Rattle.mlir_work_run.proofs.Lives.{leaves_after, leaves_halted, live_failed, live_ran, live_refused, live_unparsed, more_of, true_of}
use Rattle.mlir_work_run.proofs.live.answer_live.Goals as goal

pub returns-in-Err-clause-ended : goal.returns-in-Err-clause-ended
returns-in-Err-clause-ended g c = live_failed (setting_with g.L.AnalysisSource.supply c.args.options (registry_model c.args.registry)) (all_shown g.L.Analysis.meaning c.args.boxes.items) (g.R.Source.intake c.args.reader.now).remaining (g.W.Sink.stream c.args.writer.now) (g.W.Sink.stream c.flush.new.writer) (g.W.Sink.handed c.flush.new.writer) c.in-Err.ensures.stays

pub returns-clause-ended : goal.returns-clause-ended
returns-clause-ended g c = live_ran (setting_with g.L.AnalysisSource.supply c.args.options (registry_model c.args.registry)) (all_shown g.L.Analysis.meaning c.args.boxes.items) (g.R.Source.intake c.args.reader.now).remaining (waiting c.take_module.new.kept.items (g.R.Source.intake c.take_module.new.reader).remaining) c.in-Ok-take_module.text.items (g.W.Sink.stream c.args.writer.now) (g.W.Sink.stream c.flush.new.writer) (g.W.Sink.stream c.answer_text.new.writer) (g.W.Sink.handed c.answer_text.new.writer) c.answer_text.result (rw c.new-kept.ensures.items at c.in-Ok-take_module.ensures.module) c.in-Ok.ensures.stays c.answer_text.ensures.ended

pub returns-in-Err-Broken-clause-ended : goal.returns-in-Err-Broken-clause-ended
returns-in-Err-Broken-clause-ended g c = live_unparsed (setting_with g.L.AnalysisSource.supply c.args.options (registry_model c.args.registry)) (all_shown g.L.Analysis.meaning c.args.boxes.items) (g.R.Source.intake c.args.reader.now).remaining (g.W.Sink.stream c.args.writer.now) (g.W.Sink.stream c.flush.new.writer) (g.W.Sink.handed c.flush.new.writer) c.in-Ok.ensures.handed c.in-Ok.ensures.stays

pub returns-in-Err-Memory-clause-ended : goal.returns-in-Err-Memory-clause-ended
returns-in-Err-Memory-clause-ended g c =
    live_refused (setting_with g.L.AnalysisSource.supply c.args.options (registry_model c.args.registry)) (all_shown g.L.Analysis.meaning c.args.boxes.items) (g.R.Source.intake c.args.reader.now).remaining (IsRefusal c.no_memory.result.refusal c.no_memory.result.offset (construct_if c.args.options.explain c.no_memory.result.unsupported)) (λ input. input ≡ input) (g.W.Sink.stream c.args.writer.now) (g.W.Sink.stream c.flush.new.writer) (g.W.Sink.stream c.refuse.new.writer) (g.W.Sink.handed c.refuse.new.writer) c.refuse.result c.halted.result c.halted.ensures (true_of (g.R.Source.intake c.args.reader.now).remaining) (λ input why lines st out h. inr (inl (Memory, None, refl, rw (c.no_memory.ensures.refusal, c.no_memory.ensures.offset, c.no_memory.ensures.unsupported) at h))) c.in-Ok.ensures.stays c.refuse.ensures

pub returns-in-Err-TooMany-clause-ended : goal.returns-in-Err-TooMany-clause-ended
unfolding most_input_bytes
returns-in-Err-TooMany-clause-ended g c =
    live_refused (setting_with g.L.AnalysisSource.supply c.args.options (registry_model c.args.registry)) (all_shown g.L.Analysis.meaning c.args.boxes.items) (g.R.Source.intake c.args.reader.now).remaining _ (λ input. most_input_bytes < length input) (g.W.Sink.stream c.args.writer.now) (g.W.Sink.stream c.flush.new.writer) (g.W.Sink.stream c.refuse-in-Err-TooMany.new.writer) (g.W.Sink.handed c.refuse-in-Err-TooMany.new.writer) c.refuse-in-Err-TooMany.result c.halted-in-Err-TooMany.result c.halted-in-Err-TooMany.ensures (more_of most_input_bytes (g.R.Source.intake c.args.reader.now).remaining (rw c.new-kept.ensures.items at (c.in-Err-TooMany.ensures.many c.in-Err-TooMany.field-0-is))) (λ input many lines st out h. inl (many, h)) c.in-Ok.ensures.stays c.refuse-in-Err-TooMany.ensures

pub returns-in-Err-clause-leaves : goal.returns-in-Err-clause-leaves
returns-in-Err-clause-leaves g c = (refl, c.in-Err.ensures.stays.1)

pub returns-in-Err-Broken-clause-leaves : goal.returns-in-Err-Broken-clause-leaves
returns-in-Err-Broken-clause-leaves g c = (rw c.in-Err-Broken.field-0-is at c.in-Err-Broken.ensures.broken, c.in-Ok.ensures.stays.1, c.in-Ok.ensures.handed)

pub returns-in-Err-Memory-clause-leaves : goal.returns-in-Err-Memory-clause-leaves
returns-in-Err-Memory-clause-leaves g c =
    let same = rw c.in-Err-Memory.field-0-is at c.in-Err-Memory.ensures.broken in
    let here = leaves_halted (IsRefusal c.no_memory.result.refusal c.no_memory.result.offset (construct_if c.args.options.explain c.no_memory.result.unsupported)) (g.R.Source.intake c.take_module.new.reader) (g.R.Source.intake c.take_module.new.reader) (g.W.Sink.stream c.flush.new.writer) (g.W.Sink.stream c.refuse.new.writer) (g.W.Sink.handed c.refuse.new.writer) c.refuse.result c.halted.result c.halted.ensures (λ st o h. inr (inr h.0)) refl c.refuse.ensures in
    leaves_after (g.R.Source.intake c.args.reader.now) (g.R.Source.intake c.take_module.new.reader) (g.R.Source.intake c.take_module.new.reader) (g.W.Sink.stream c.args.writer.now) (g.W.Sink.stream c.flush.new.writer) (g.W.Sink.stream c.refuse.new.writer) (g.W.Sink.handed c.refuse.new.writer) c.halted.result same c.in-Ok.ensures.stays.1 here

pub returns-in-Err-TooMany-clause-leaves : goal.returns-in-Err-TooMany-clause-leaves
returns-in-Err-TooMany-clause-leaves g c =
    let same = rw c.in-Err-TooMany.field-0-is at c.in-Err-TooMany.ensures.broken in
    let here = leaves_halted _ (g.R.Source.intake c.take_module.new.reader) (g.R.Source.intake c.take_module.new.reader) (g.W.Sink.stream c.flush.new.writer) (g.W.Sink.stream c.refuse-in-Err-TooMany.new.writer) (g.W.Sink.handed c.refuse-in-Err-TooMany.new.writer) c.refuse-in-Err-TooMany.result c.halted-in-Err-TooMany.result c.halted-in-Err-TooMany.ensures (λ st o h. inr (inr h.0)) refl c.refuse-in-Err-TooMany.ensures in
    leaves_after (g.R.Source.intake c.args.reader.now) (g.R.Source.intake c.take_module.new.reader) (g.R.Source.intake c.take_module.new.reader) (g.W.Sink.stream c.args.writer.now) (g.W.Sink.stream c.flush.new.writer) (g.W.Sink.stream c.refuse-in-Err-TooMany.new.writer) (g.W.Sink.handed c.refuse-in-Err-TooMany.new.writer) c.halted-in-Err-TooMany.result same c.in-Ok.ensures.stays.1 here

pub returns-clause-leaves : goal.returns-clause-leaves
returns-clause-leaves g c = leaves_after (g.R.Source.intake c.args.reader.now) (g.R.Source.intake c.take_module.new.reader) (g.R.Source.intake c.answer_text.new.reader) (g.W.Sink.stream c.args.writer.now) (g.W.Sink.stream c.flush.new.writer) (g.W.Sink.stream c.answer_text.new.writer) (g.W.Sink.handed c.answer_text.new.writer) c.answer_text.result c.in-Ok-take_module.ensures.failed c.in-Ok.ensures.stays.1 c.answer_text.ensures.leaves
