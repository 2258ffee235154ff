use Rattle.std.proofs.Common.{[], sym, append-nil}
use Rattle.mlir_work_session.specs.RewriterCalls.{state_of}
use Rattle.mlir_work_session.proofs.Joins.{grows_fails}
use Rattle.mlir_work_run.proofs.live.begin_live.Goals as goal

pub returns-in-Err-flush-clause-begun : goal.returns-in-Err-flush-clause-begun
returns-in-Err-flush-clause-begun g c =
    let begun = c.in-Ok.ensures.begun in
    (state_of g.L.Analysis.meaning c.begin.new.bench, c.in-Ok.accepted, begun.0, begun.1, grows_fails (g.W.Sink.stream c.args.writer.now) (g.W.Sink.stream c.begin.new.writer) (g.W.Sink.stream c.flush.new.writer) begun.0 begun.0 [] (sym (append-nil begun.0)) begun.2 c.in-Err-flush.ensures.stays)
