use Rattle.mlir_work_c.proofs.Talking.{talked_whole}
use Rattle.mlir_work_c.proofs.laws.sessions_are_whole_runs.Goals as goal

pub returns : goal.returns
returns c = talked_whole
