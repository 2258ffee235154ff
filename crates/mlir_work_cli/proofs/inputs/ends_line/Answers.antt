use Rattle.std.proofs.Common.{sym, ◌∙◌}
use Rattle.mlir_work_cli.proofs.Ending.{ends_so}
use Rattle.mlir_work_cli.proofs.inputs.ends_line.Goals as goal

pub returns-in-Some : goal.returns-in-Some
returns-in-Some c = ends_so c.args.text.now c.in-Some.byte.now (sym c.in-Some.ensures.value)
