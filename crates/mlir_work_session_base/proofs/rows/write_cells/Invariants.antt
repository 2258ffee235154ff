use Rattle.std.proofs.Common.{◌≡◌, ◌++◌, drop, map, true}
use Rattle.std.specs.Prelude.{codes}
use Rattle.ir_event.specs.Rows.{cell_meaning}
use Rattle.ir_text.specs.Rows.{parted}
use Rattle.mlir_work_session_base.specs.RowText.{cell_text}
use Rattle.mlir_work_session_base.proofs.rows.write_cells.Given as goal

abbrev pub invariant-cells : goal.invariant-cells
invariant-cells l = l.out.items ++ parted (codes " ") l.first (map cell_text (map (cell_meaning l.ctx) (drop l.cell-index l.cells))) ≡ l.fn.out.items ++ parted (codes " ") true (map cell_text (map (cell_meaning l.ctx) l.cells))
