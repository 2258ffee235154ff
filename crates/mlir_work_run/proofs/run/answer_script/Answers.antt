use Rattle.mlir_work_session.specs.Registry.{registry_model}
use Rattle.ir_event.specs.Modules.{module_in}
use Rattle.mlir_work_session.specs.Panels.{all_shown}
use Rattle.mlir_work_session.specs.Output.{IsSession, session_setting}
use Rattle.mlir_work_run.proofs.Ended.{finished}
use Rattle.mlir_work_run.proofs.run.answer_script.Goals as goal

pub returns-in-Ok : goal.returns-in-Ok
returns-in-Ok g c =
    let ran = c.in-Ok.ensures in
    finished (IsSession (session_setting g.L.AnalysisSource.supply c.args.session_options.now) (registry_model c.args.registry) (all_shown g.L.Analysis.meaning c.args.boxes.items) (module_in c.args.world) c.args.script.now) (g.W.Sink.stream c.args.writer.now) (g.W.Sink.stream c.run_session.new.writer) (g.W.Sink.stream c.finish.new.writer) (g.W.Sink.handed c.finish.new.writer) c.in-Ok.status ran.0 c.finish.result ran.1 ran.2 c.finish.ensures.stays c.finish.ensures.handed c.finish.ensures.status
