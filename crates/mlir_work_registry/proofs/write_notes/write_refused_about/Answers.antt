use Rattle.std.proofs.Common.{◌++◌}
use Rattle.std.specs.Prelude.{codes}
use Rattle.mlir_work_script_base.proofs.Joins.{preceding_more, puts_join}
use Rattle.mlir_work_registry.specs.Explained.{refused_preceding}
use Rattle.mlir_work_registry.proofs.write_notes.write_refused_about.Goals as goal

pub returns-in-Ok : goal.returns-in-Ok
returns-in-Ok g c = puts_join _ _ _ (refused_preceding c.args.n c.args.refusal) (c.args.about.now ++ codes "\n") c.write_after.result c.in-Ok.ensures c.write_after.ensures

pub returns-in-Err : goal.returns-in-Err
returns-in-Err g c = preceding_more (g.W.Sink.stream c.args.writer.now) (g.W.Sink.stream c.write_refused_preceding.new.writer) (refused_preceding c.args.n c.args.refusal) (c.args.about.now ++ codes "\n") c.in-Err.ensures
