use Rattle.mlir_work_script_base.proofs.Joins.{puts_join, preceding_more}
use Rattle.mlir_work_script.specs.Replies.{kind_line}
use Rattle.mlir_work_session.proofs.listing.write_rows.Goals as goal

pub returns-in-Ok : goal.returns-in-Ok
returns-in-Ok g c = puts_join _ _ _ (kind_line c.args.kind) c.args.text.now c.write.result c.in-Ok.ensures c.write.ensures

pub returns-in-Err : goal.returns-in-Err
returns-in-Err g c = preceding_more (g.W.Sink.stream c.args.writer.now) (g.W.Sink.stream c.write_report_heading.new.writer) (kind_line c.args.kind) c.args.text.now c.in-Err.ensures
