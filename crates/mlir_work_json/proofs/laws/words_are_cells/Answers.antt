use Rattle.mlir_work_json.proofs.Saying.{words_are_cells}
use Rattle.mlir_work_json.proofs.laws.words_are_cells.Goals as goal

pub returns : goal.returns
returns c = words_are_cells
