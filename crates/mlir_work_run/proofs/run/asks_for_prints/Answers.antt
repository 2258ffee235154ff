use Rattle.mlir_work_run.proofs.Ended.{both_true}
use Rattle.mlir_work_run.proofs.run.asks_for_prints.Goals as goal

pub returns-clause-prints : goal.returns-clause-prints
returns-clause-prints g c h = (both_true _ _ (rw c.only_prints.ensures at h)).0

pub returns-clause-apart : goal.returns-clause-apart
returns-clause-apart g c h = (both_true _ _ (rw c.only_prints.ensures at h)).1
