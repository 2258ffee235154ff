use Rattle.std.proofs.Common.{true}
use Rattle.mlir_work_script_base.proofs.Dividing.{divided}
use Rattle.mlir_work_script_base.proofs.laws.inputs_are_split.Goals as goal

pub returns : goal.returns
returns c = divided true
