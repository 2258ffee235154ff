use Rattle.mlir_work_script_base.proofs.Joins.{puts_join, preceding_more}
use Rattle.mlir_work_session.specs.Machine.{response_of}
use Rattle.mlir_work_transforms.specs.registry.ReplyLines.{reply_line}
use Rattle.mlir_work_session.proofs.prints.write_shown.Goals as goal

pub returns-in-Ok : goal.returns-in-Ok
returns-in-Ok g c = puts_join _ _ _ (reply_line c.args.n (response_of c.args.answered.now.reply)) c.args.answered.now.shows.items c.write.result c.in-Ok.ensures (rw c.deref.ensures.value at c.write.ensures)

pub returns-in-Err : goal.returns-in-Err
returns-in-Err g c = preceding_more (g.W.Sink.stream c.args.writer.now) (g.W.Sink.stream c.write_reply.new.writer) (reply_line c.args.n (response_of c.args.answered.now.reply)) c.args.answered.now.shows.items c.in-Err.ensures
