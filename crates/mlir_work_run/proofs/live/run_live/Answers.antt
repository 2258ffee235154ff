use Rattle.mlir_work_session.specs.Registry.{registry_model}
use Rattle.mlir_work_session.specs.Panels.{all_shown}
use Rattle.mlir_work_run.specs.Whole.{setting_with}
use Rattle.mlir_work_run.proofs.Beginnings.{live_at_whole}
use Rattle.mlir_work_run.proofs.Lives.{fault_live, live_at}
use Rattle.mlir_work_run.proofs.live.run_live.Goals as goal

pub returns-clause-live : goal.returns-clause-live
returns-clause-live g c = live_at (setting_with g.L.AnalysisSource.supply c.args.options (registry_model c.args.registry)) (all_shown g.L.Analysis.meaning c.args.boxes.items) (g.R.Source.intake c.args.reader.now).remaining (g.R.Source.intake c.args.reader.now) (g.R.Source.intake c.answer_live.new.reader) (g.W.Sink.stream c.args.writer.now) (g.W.Sink.stream c.answer_live.new.writer) (g.W.Sink.handed c.answer_live.new.writer) c.answer_live.result c.exit_status.result c.exit_status.ensures c.answer_live.ensures.leaves c.answer_live.ensures.ended

pub returns-clause-whole : goal.returns-clause-whole
returns-clause-whole g c =
    let setting = setting_with g.L.AnalysisSource.supply c.args.options (registry_model c.args.registry) in
    let boxes = all_shown g.L.Analysis.meaning c.args.boxes.items in
    let at = live_at setting boxes (g.R.Source.intake c.args.reader.now).remaining (g.R.Source.intake c.args.reader.now) (g.R.Source.intake c.answer_live.new.reader) (g.W.Sink.stream c.args.writer.now) (g.W.Sink.stream c.answer_live.new.writer) (g.W.Sink.handed c.answer_live.new.writer) c.answer_live.result c.exit_status.result c.exit_status.ensures c.answer_live.ensures.leaves c.answer_live.ensures.ended in
    live_at_whole setting boxes (g.R.Source.intake c.args.reader.now).remaining (g.R.Source.intake c.answer_live.new.reader) (g.W.Sink.stream c.args.writer.now) (g.W.Sink.stream c.answer_live.new.writer) (g.W.Sink.handed c.answer_live.new.writer) c.exit_status.result at

pub returns-clause-fault : goal.returns-clause-fault
returns-clause-fault g c = fault_live (g.R.Source.intake c.args.reader.now) (g.R.Source.intake c.answer_live.new.reader) (g.W.Sink.stream c.args.writer.now) (g.W.Sink.stream c.answer_live.new.writer) (g.W.Sink.handed c.answer_live.new.writer) c.answer_live.result c.exit_status.result c.exit_status.ensures c.answer_live.ensures.leaves
