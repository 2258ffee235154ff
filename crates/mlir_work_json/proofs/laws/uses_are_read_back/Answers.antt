use Rattle.mlir_work_json.proofs.RowsBack.{uses_are_read_back}
use Rattle.mlir_work_json.proofs.laws.uses_are_read_back.Goals as goal

pub returns : goal.returns
returns c = uses_are_read_back
