use Rattle.std.proofs.Common.{[], sym, append-nil}
use Rattle.mlir_work_session.proofs.Joins.{grows_fails, grows_stays}
use Rattle.mlir_work_run.proofs.live.live_step.Goals as goal

pub returns-in-Err-clause-answered : goal.returns-in-Err-clause-answered
returns-in-Err-clause-answered g c = rw c.split_line.ensures.line at c.in-Err.ensures.answered

pub returns-in-Ok-flush-clause-answered : goal.returns-in-Ok-flush-clause-answered
returns-in-Ok-flush-clause-answered g c =
    let reported = rw c.split_line.ensures.line at c.in-Ok.ensures.answered in
    (reported.0, reported.1, grows_stays (g.W.Sink.stream c.args.writer.now) (g.W.Sink.stream c.answer_line.new.writer) (g.W.Sink.stream c.flush.new.writer) reported.0 reported.2 c.in-Ok-flush.ensures.stays)

pub returns-in-Err-flush-clause-answered : goal.returns-in-Err-flush-clause-answered
returns-in-Err-flush-clause-answered g c =
    let reported = rw c.split_line.ensures.line at c.in-Ok.ensures.answered in
    (c.in-Ok.reported, reported.0, reported.1, grows_fails (g.W.Sink.stream c.args.writer.now) (g.W.Sink.stream c.answer_line.new.writer) (g.W.Sink.stream c.flush.new.writer) reported.0 reported.0 [] (sym (append-nil reported.0)) reported.2 c.in-Err-flush.ensures.stays)
