use Rattle.mlir_work_json.proofs.RowsBack.{dead_is_read_back, diagnostics_are_read_back}
use Rattle.mlir_work_json.proofs.laws.operations_are_read_back.Goals as goal

pub returns-clause-dead : goal.returns-clause-dead
returns-clause-dead c = dead_is_read_back

pub returns-clause-diagnostics : goal.returns-clause-diagnostics
returns-clause-diagnostics c = diagnostics_are_read_back
