use Rattle.mlir_work_run.proofs.Beginnings.{live_up_to}
use Rattle.mlir_work_run.proofs.Within.{live_whole}
use Rattle.mlir_work_run.proofs.live.live_runs_are_whole.Goals as goal

pub returns : goal.returns
returns c = record { all = live_whole; up_to = live_up_to }
