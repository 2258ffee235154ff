use Rattle.mlir_work_cli.proofs.Joined.{scripts_after}
use Rattle.mlir_work_cli.proofs.input_laws.scripts_follow.Goals as goal

pub returns : goal.returns
returns c = scripts_after
