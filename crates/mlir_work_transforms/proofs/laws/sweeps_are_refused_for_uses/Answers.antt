use Rattle.mlir_work_transforms.proofs.EraseOrder.{sweep_for_uses}
use Rattle.mlir_work_transforms.proofs.laws.sweeps_are_refused_for_uses.Goals as goal

pub returns : goal.returns
returns c = sweep_for_uses
