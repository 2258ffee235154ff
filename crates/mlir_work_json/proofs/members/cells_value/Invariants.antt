use Rattle.std.proofs.Common.{◌≡◌, ◌++◌, map, length}
use Rattle.serde_json.specs.View.{view}
use Rattle.mlir_work_json.specs.Cuts.{cells}
use Rattle.mlir_work_json.specs.Items.{text_data}
use Rattle.mlir_work_json.proofs.members.cells_value.Given as goal

-- the cells so far, followed by the cells of the rest, are those of the whole text
abbrev pub invariant-loop-rest : goal.invariant-loop-rest
invariant-loop-rest l = map view l.values.items ++ map text_data (cells l.rest) ≡ map text_data (cells l.fn.text)

abbrev pub decreases-loop-rest : goal.decreases-loop-rest
decreases-loop-rest l = length l.rest
