use Rattle.mlir_work_script_base.proofs.Joins.{puts_join, preceding_more}
use Rattle.mlir_work_registry.specs.Notices.{notice_of}
use Rattle.mlir_work_registry.specs.ReplyLines.{notice_line, surprise_line}
use Rattle.mlir_work_registry.proofs.write_replies.write_reply_text.Goals as goal

pub returns-in-Ok : goal.returns-in-Ok
returns-in-Ok g c = puts_join _ _ _ (notice_line c.args.n (notice_of c.args.notice.now)) (surprise_line c.args.n c.args.expected.now (notice_of c.args.notice.now)) c.write_surprise.result c.in-Ok.ensures c.write_surprise.ensures

pub returns-in-Err : goal.returns-in-Err
returns-in-Err g c = preceding_more (g.W.Sink.stream c.args.writer.now) (g.W.Sink.stream c.write_notice.new.writer) (notice_line c.args.n (notice_of c.args.notice.now)) (surprise_line c.args.n c.args.expected.now (notice_of c.args.notice.now)) c.in-Err.ensures
