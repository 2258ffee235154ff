use Rattle.std.proofs.Common.{◌++◌}
use Rattle.std.specs.Prelude.{codes}
use Rattle.mlir_work_script_base.proofs.Joins.{preceding_more, puts_join}
use Rattle.mlir_work_registry.proofs.write_notes.write_after.Goals as goal

pub returns-in-Ok : goal.returns-in-Ok
returns-in-Ok g c = puts_join _ _ _ c.args.about.now (codes "\n") c.write-in-Ok.result c.in-Ok.ensures c.write-in-Ok.ensures

pub returns-in-Err : goal.returns-in-Err
returns-in-Err g c = preceding_more (g.W.Sink.stream c.args.writer.now) (g.W.Sink.stream c.write.new.writer) c.args.about.now (codes "\n") c.in-Err.ensures
