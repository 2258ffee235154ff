use Rattle.mlir_work_session.specs.Panels.{all_shown}
use Rattle.mlir_work_session.specs.Output.{IsSession}
use Rattle.ir_event.specs.trees.Meaning.{meaning}
use Rattle.mlir_work_run.proofs.Ended.{finished}
use Rattle.mlir_work_run.proofs.run.answer_prints.Goals as goal

pub returns-in-Ok : goal.returns-in-Ok
returns-in-Ok g c session_options start next endless =
    let ran = c.in-Ok.ensures session_options start next endless in
    finished (IsSession session_options start (all_shown g.L.Analysis.meaning c.args.boxes.now) (record { tree = meaning c.args.ctx.now c.args.tree.now; next = next }) c.args.script.now) (g.W.Sink.stream c.args.writer.now) (g.W.Sink.stream c.print_session.new.writer) (g.W.Sink.stream c.finish.new.writer) (g.W.Sink.handed c.finish.new.writer) c.in-Ok.status ran.0 c.finish.result ran.1 ran.2 c.finish.ensures.stays c.finish.ensures.handed c.finish.ensures.status
