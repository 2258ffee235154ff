use Rattle.std.proofs.Common.{◌∙◌}
use Rattle.mlir_work_transforms.specs.rewriter.Held.{module_held}
use Rattle.mlir_work_transforms.specs.rewriter.Panels.{all_shown}
use Rattle.mlir_work_transforms.specs.registry.Registry.{registry_model}
use Rattle.mlir_work_session.specs.Machine.{session_setting}
use Rattle.mlir_work_session.proofs.Sessions.{session_ran, session_cut, session_begun}
use Rattle.mlir_work_session.proofs.session.attach_and_run.Goals as goal

pub returns-in-Err : goal.returns-in-Err
returns-in-Err g c =
    let had = c.in-Err.ensures.begun in
    session_begun (session_setting g.L.AnalysisSource.supply c.args.session_options.now) (registry_model c.args.registry) (all_shown g.L.Analysis.meaning c.args.boxes.items) (module_held c.args.bench.now.transaction) c.args.script.now (g.W.Sink.stream c.args.writer.now) (g.W.Sink.stream c.begin.new.writer) had.0 had.1 had.2 had.3 had.4

pub returns-in-Ok-run_script : goal.returns-in-Ok-run_script
returns-in-Ok-run_script g c =
    let had = c.in-Ok.ensures.begun in
    let ran = c.in-Ok-run_script.ensures in
    rw c.worse.ensures (session_ran (session_setting g.L.AnalysisSource.supply c.args.session_options.now) (registry_model c.args.registry) (all_shown g.L.Analysis.meaning c.args.boxes.items) (module_held c.args.bench.now.transaction) c.args.script.now _ _ _ _ c.in-Ok.accepted had.0 c.in-Ok-run_script.status ran.0 had.1 had.2 ran.1 ran.2)

pub returns : goal.returns
returns g c =
    let had = c.in-Ok.ensures.begun in
    let ran = c.in-Err-run_script.ensures in
    session_cut (session_setting g.L.AnalysisSource.supply c.args.session_options.now) (registry_model c.args.registry) (all_shown g.L.Analysis.meaning c.args.boxes.items) (module_held c.args.bench.now.transaction) c.args.script.now _ _ _ _ c.in-Ok.accepted had.0 ran.0 ran.1 had.1 had.2 ran.2 ran.3

pub run_script-requires-clause-mode : goal.run_script-requires-clause-mode
run_script-requires-clause-mode g c = c.begin.ensures.mode ∙ c.requires.mode
