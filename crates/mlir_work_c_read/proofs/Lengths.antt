-- A row has as many cells as numbers as it has cells.
use Rattle.std.proofs.Common.{◌≡◌, ap, refl, suc, List, [], ◌∷◌, length}
use Rattle.ir_event.specs.declared.row.Cell.{Cell}
use Rattle.mlir_work_c_read.specs.Rows.{cells_numbers}

pub cells_length : (cs : List Cell) → length (cells_numbers cs) ≡ length cs
cells_length [] = refl
cells_length (c ∷ cs) = ap suc (cells_length cs)
