use Rattle.mlir_work_session.specs.Registry.{registry_model}
use Rattle.std.proofs.Common.{◌∙◌, ap, sym, inl, inr, length, refl, None}
use Rattle.ir_event.specs.types.Things.{ContextModel}
use Rattle.ir_event.specs.types.declared.refusal.Refusal.TheVariants.{Memory}
use Rattle.ir_event.specs.trees.Ids.{op_count}
use Rattle.ir_event.specs.trees.Meaning.{meaning}
use Rattle.ir_event.specs.Modules.{Module, module_in}
use Rattle.mlir_work_session.specs.Panels.{all_shown}
use Rattle.mlir_work_session.specs.Parts.{module_text, script_text}
use Rattle.mlir_work_session.specs.Output.{IsSession}
use Rattle.mlir_work_session.specs.declared.options.SessionOptions.{SessionOptions}
use Rattle.mlir_work_run.specs.Whole.{IsOutput, IsRefusal, construct_if, setting_with, session_setting_at}
use Rattle.mlir_work_run.proofs.Ended.{ran_so}
use Rattle.mlir_work_run.proofs.Numbered.{numbered_meaning, wellformed_meaning, world_is}
use Rattle.mlir_work_run.proofs.run.answer_input.Goals as goal

pub hold-requires-clause-numbered : goal.hold-requires-clause-numbered
hold-requires-clause-numbered g c = numbered_meaning c.in-Ok.parts.0.0 c.in-Ok.parts.0.1 c.in-Ok.ensures.read.holds.spells.numbered

pub hold-requires-clause-wellformed : goal.hold-requires-clause-wellformed
hold-requires-clause-wellformed g c = wellformed_meaning c.in-Ok.parts.0.0 c.in-Ok.parts.0.1 c.in-Ok.ensures.read.holds.spells.wellformed

pub returns-in-Err : goal.returns-in-Err
returns-in-Err g c = ran_so (IsRefusal c.in-Err.unparsed.refusal c.in-Err.unparsed.offset (construct_if c.args.options.explain c.in-Err.unparsed.unsupported)) (IsOutput (setting_with g.L.AnalysisSource.supply c.args.options (registry_model c.args.registry)) (all_shown g.L.Analysis.meaning c.args.boxes.items) c.args.input.items) (g.W.Sink.stream c.args.writer.now) (g.W.Sink.stream c.refuse.new.writer) (g.W.Sink.handed c.refuse.new.writer) c.refuse.result (λ st o h. inr (c.requires, inl (c.in-Err.unparsed.refusal, c.in-Err.unparsed.offset, c.in-Err.ensures.unparsed, rw c.in-Err.ensures.unsupported at h))) c.refuse.ensures

pub returns-then-asks_for_prints : goal.returns-then-asks_for_prints
returns-then-asks_for_prints g c =
    let meant : Module = record { tree = meaning c.in-Ok.parts.0.0 c.in-Ok.parts.0.1; next = op_count c.in-Ok.parts.0.1 } in
    let world = world_is c.args.options.opaque (module_text c.args.input.items) c.in-Ok.parts.0.0 c.in-Ok.parts.0.1 meant c.in-Ok.ensures.read refl in
    let ran = rw (c.deref-then-asks_for_prints.ensures.value, c.deref-then-asks_for_prints-2.ensures.value, c.in-Ok.ensures.script) at (c.answer_prints.ensures (session_setting_at (setting_with g.L.AnalysisSource.supply c.args.options (registry_model c.args.registry)) (length c.args.input.items)) (registry_model c.args.registry) (op_count c.in-Ok.parts.0.1) (c.if-asks_for_prints.ensures.endless refl)) in
    ran_so (IsSession (session_setting_at (setting_with g.L.AnalysisSource.supply c.args.options (registry_model c.args.registry)) (length c.args.input.items)) (registry_model c.args.registry) (all_shown g.L.Analysis.meaning c.args.boxes.items) meant (script_text c.args.input.items)) (IsOutput (setting_with g.L.AnalysisSource.supply c.args.options (registry_model c.args.registry)) (all_shown g.L.Analysis.meaning c.args.boxes.items) c.args.input.items) (g.W.Sink.stream c.args.writer.now) (g.W.Sink.stream c.answer_prints.new.writer) (g.W.Sink.handed c.answer_prints.new.writer) c.answer_prints.result (λ st o h. inr (c.requires, inr (meant, world, h))) ran

pub returns-in_default : goal.returns-in_default
returns-in_default g c = ran_so (IsRefusal c.no_memory.result.refusal c.no_memory.result.offset (construct_if c.args.options.explain c.no_memory.result.unsupported)) (IsOutput (setting_with g.L.AnalysisSource.supply c.args.options (registry_model c.args.registry)) (all_shown g.L.Analysis.meaning c.args.boxes.items) c.args.input.items) (g.W.Sink.stream c.args.writer.now) (g.W.Sink.stream c.refuse-in_default.new.writer) (g.W.Sink.handed c.refuse-in_default.new.writer) c.refuse-in_default.result (λ st o h. inr (c.requires, inl (Memory, None, refl, rw (c.no_memory.ensures.refusal, c.no_memory.ensures.offset, c.no_memory.ensures.unsupported) at h))) c.refuse-in_default.ensures

pub returns : goal.returns
returns g c =
    let world = world_is c.args.options.opaque (module_text c.args.input.items) c.in-Ok.parts.0.0 c.in-Ok.parts.0.1 (module_in c.in-Some.world) c.in-Ok.ensures.read c.in-Some.ensures.module in
    let ran = rw (c.deref-3.ensures.value, c.in-Ok.ensures.script, c.session_options_of-session_options.ensures, c.len.ensures ∙ c.args.input.ok.0) at c.answer_script.ensures in
    ran_so (IsSession (session_setting_at (setting_with g.L.AnalysisSource.supply c.args.options (registry_model c.args.registry)) (length c.args.input.items)) (registry_model c.args.registry) (all_shown g.L.Analysis.meaning c.args.boxes.items) (module_in c.in-Some.world) (script_text c.args.input.items)) (IsOutput (setting_with g.L.AnalysisSource.supply c.args.options (registry_model c.args.registry)) (all_shown g.L.Analysis.meaning c.args.boxes.items) c.args.input.items) (g.W.Sink.stream c.args.writer.now) (g.W.Sink.stream c.answer_script.new.writer) (g.W.Sink.handed c.answer_script.new.writer) c.answer_script.result (λ st o h. inr (c.requires, inr (module_in c.in-Some.world, world, h))) ran

pub answer_script-requires-clause-mode : goal.answer_script-requires-clause-mode
answer_script-requires-clause-mode g c = ap (λ (d : ContextModel). d.opaque) c.in-Some.ensures.ctx ∙ c.in-Ok.ensures.mode ∙ sym (ap (λ (m : SessionOptions). m.opaque) c.session_options_of-session_options.ensures)
