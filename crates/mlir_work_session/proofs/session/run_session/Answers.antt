use Rattle.std.proofs.Common.{◌≡◌, inl, inr, refl, subst, ◌∙◌, ap}
use Rattle.mlir_work_transforms.specs.rewriter.Held.{module_held}
use Rattle.std.specs.Prelude.{length}
use Rattle.ir_event.specs.types.Things.{ContextModel}
use Rattle.ir_event.specs.Modules.{Module, module_in, module_meaning}
use Rattle.mlir_work_transforms.specs.rewriter.Panels.{all_shown}
use Rattle.mlir_work_transforms.specs.registry.Registry.{registry_model}
use Rattle.mlir_work_session.specs.Machine.{session_setting}
use Rattle.mlir_work_session.specs.Output.{IsSession, IsBadScript, Session}
use Rattle.mlir_work_session.proofs.Sessions.{short, ran_weaker}
use Rattle.mlir_work_session.proofs.session.run_session.Goals as goal

pub returns-then-script_is_too_long : goal.returns-then-script_is_too_long
returns-then-script_is_too_long g c = ran_weaker IsBadScript (IsSession (session_setting g.L.AnalysisSource.supply c.args.session_options.now) (registry_model c.args.registry) (all_shown g.L.Analysis.meaning c.args.boxes.items) (module_in c.args.world) c.args.script.now) (g.W.Sink.stream c.args.writer.now) (g.W.Sink.stream c.refuse_script.new.writer) c.refuse_script.result (λ st o h. inl (c.if-script_is_too_long.ensures.0 refl, h)) c.refuse_script.ensures

pub returns : goal.returns
returns g c =
    let boxes = all_shown g.L.Analysis.meaning c.args.boxes.items in
    let is = c.from_world-bench.ensures.transaction in
    let same : module_held c.from_world-bench.result.transaction ≡ module_in c.args.world = (λ i. module_meaning (is.ctx i) (is.module_of i)) in
    ran_weaker (Session (session_setting g.L.AnalysisSource.supply c.args.session_options.now) (registry_model c.args.registry) boxes (module_held c.from_world-bench.result.transaction) c.args.script.now) (IsSession (session_setting g.L.AnalysisSource.supply c.args.session_options.now) (registry_model c.args.registry) boxes (module_in c.args.world) c.args.script.now) (g.W.Sink.stream c.args.writer.now) (g.W.Sink.stream c.attach_and_run.new.writer) c.attach_and_run.result
    (λ st o h. inr (short (length c.args.script.now) _ c.if-script_is_too_long.ensures refl, subst (λ (m : Module). Session (session_setting g.L.AnalysisSource.supply c.args.session_options.now) (registry_model c.args.registry) boxes m c.args.script.now st o) same h)) c.attach_and_run.ensures

pub attach_and_run-requires-clause-unmarked : goal.attach_and_run-requires-clause-unmarked
attach_and_run-requires-clause-unmarked g c = c.from_world-bench.ensures.transaction.opens

pub attach_and_run-requires-clause-none : goal.attach_and_run-requires-clause-none
attach_and_run-requires-clause-none g c = c.from_world-bench.ensures.listeners

pub attach_and_run-requires-clause-mode : goal.attach_and_run-requires-clause-mode
attach_and_run-requires-clause-mode g c = ap (λ (d : ContextModel). d.opaque) c.from_world-bench.ensures.transaction.ctx ∙ c.requires.mode
