use Rattle.mlir_work_session.specs.Registry.{registry_model}
use Rattle.std.proofs.Common.{◌+◌, ℕ, inl, inr, length, refl, subst}
use Rattle.std.specs.Prelude.{IfSome}
use Rattle.ir_event.specs.Modules.{module_in}
use Rattle.mlir_work_run.specs.Feeding.{waiting}
use Rattle.mlir_work_session.specs.Panels.{all_shown}
use Rattle.mlir_work_run.specs.Live.{IsLive, Live, LiveEnded, divider_bytes, whole_lines}
use Rattle.mlir_work_run.specs.Whole.{IsRefusal, construct_if, setting_with}
use Rattle.mlir_work_run.proofs.Lives.{if_ended_so, leaves_halted, refused_if}
use Rattle.mlir_work_run.proofs.live.answer_text.Goals as goal

pub returns-in-Ok-clause-ended : goal.returns-in-Ok-clause-ended
returns-in-Ok-clause-ended g c =
    let setting = setting_with g.L.AnalysisSource.supply c.args.options (registry_model c.args.registry) in
    let boxes = all_shown g.L.Analysis.meaning c.args.boxes.items in
    let P = IsLive setting boxes c.args.text.items in
    let here = if_ended_so (Live setting boxes (module_in c.in-Ok.world) c.in-Ok.before) P (λ lines st out k. inr (module_in c.in-Ok.world, c.in-Ok.ensures.world, rw c.in-Ok.ensures.bytes at k)) c.in-Ok.before (waiting c.args.kept.now.items (g.R.Source.intake c.args.reader.now).remaining) (g.W.Sink.stream c.args.writer.now) (g.W.Sink.stream c.answer_world.new.writer) (g.W.Sink.handed c.answer_world.new.writer) c.answer_world.result c.answer_world.ensures.ended in
    subst (λ (n : ℕ). IfSome (waiting c.args.kept.now.items (g.R.Source.intake c.args.reader.now).remaining) (λ script. LiveEnded n P (whole_lines script) (g.W.Sink.stream c.args.writer.now) (g.W.Sink.stream c.answer_world.new.writer) (g.W.Sink.handed c.answer_world.new.writer) c.answer_world.result)) c.in-Ok.ensures.bytes here

pub returns-in-Err-clause-ended : goal.returns-in-Err-clause-ended
returns-in-Err-clause-ended g c =
    let setting = setting_with g.L.AnalysisSource.supply c.args.options (registry_model c.args.registry) in
    let boxes = all_shown g.L.Analysis.meaning c.args.boxes.items in
    refused_if (IsLive setting boxes c.args.text.items) (IsRefusal c.in-Err.unparsed.refusal c.in-Err.unparsed.offset (construct_if c.args.options.explain c.in-Err.unparsed.unsupported)) (length c.args.text.items + divider_bytes) (waiting c.args.kept.now.items (g.R.Source.intake c.args.reader.now).remaining) (g.W.Sink.stream c.args.writer.now) (g.W.Sink.stream c.refuse.new.writer) (g.W.Sink.handed c.refuse.new.writer) c.refuse.result c.halted.result c.halted.ensures (λ lines st out h. inl (c.in-Err.unparsed.refusal, c.in-Err.unparsed.offset, c.in-Err.ensures.unparsed, rw c.in-Err.ensures.unsupported at h)) c.refuse.ensures

pub returns-in-Err-clause-leaves : goal.returns-in-Err-clause-leaves
returns-in-Err-clause-leaves g c = leaves_halted (IsRefusal c.in-Err.unparsed.refusal c.in-Err.unparsed.offset (construct_if c.args.options.explain c.in-Err.unparsed.unsupported)) (g.R.Source.intake c.args.reader.now) (g.R.Source.intake c.args.reader.now) (g.W.Sink.stream c.args.writer.now) (g.W.Sink.stream c.refuse.new.writer) (g.W.Sink.handed c.refuse.new.writer) c.refuse.result c.halted.result c.halted.ensures (λ st o h. inr (inr h.0)) refl c.refuse.ensures
