use Rattle.mlir_work_session.specs.Registry.{registry_model}
use Rattle.mlir_work_session.specs.Panels.{all_shown}
use Rattle.mlir_work_run.specs.Whole.{setting_with}
use Rattle.mlir_work_run.proofs.Statuses.{fault_at, if_has_status, leaves_at}
use Rattle.mlir_work_run.proofs.run.run_watched.Goals as goal

pub returns-clause-ran : goal.returns-clause-ran
returns-clause-ran g c = if_has_status (g.R.Source.intake c.args.reader.now).remaining (setting_with g.L.AnalysisSource.supply c.args.options (registry_model c.args.registry)) (all_shown g.L.Analysis.meaning c.args.boxes.items) (g.W.Sink.stream c.args.writer.now).contents (g.W.Sink.stream c.read_and_answer_watched.new.writer).contents c.read_and_answer_watched.result c.exit_status.result c.exit_status.ensures c.read_and_answer_watched.ensures.ran

pub returns-clause-leaves : goal.returns-clause-leaves
returns-clause-leaves g c = leaves_at (g.R.Source.intake c.args.reader.now) (g.R.Source.intake c.read_and_answer_watched.new.reader) (g.W.Sink.stream c.args.writer.now) (g.W.Sink.stream c.read_and_answer_watched.new.writer) (g.W.Sink.handed c.read_and_answer_watched.new.writer) c.read_and_answer_watched.result c.exit_status.result c.exit_status.ensures c.read_and_answer_watched.ensures.leaves

pub returns-clause-fault : goal.returns-clause-fault
returns-clause-fault g c = fault_at (g.R.Source.intake c.args.reader.now) (g.R.Source.intake c.read_and_answer_watched.new.reader) (g.W.Sink.stream c.args.writer.now) (g.W.Sink.stream c.read_and_answer_watched.new.writer) (g.W.Sink.handed c.read_and_answer_watched.new.writer) c.exit_status.result (leaves_at (g.R.Source.intake c.args.reader.now) (g.R.Source.intake c.read_and_answer_watched.new.reader) (g.W.Sink.stream c.args.writer.now) (g.W.Sink.stream c.read_and_answer_watched.new.writer) (g.W.Sink.handed c.read_and_answer_watched.new.writer) c.read_and_answer_watched.result c.exit_status.result c.exit_status.ensures c.read_and_answer_watched.ensures.leaves)
