use Rattle.std.proofs.Common.{List, ap, map, refl}
use Rattle.std.specs.Prelude.{codes}
use Rattle.ir_event.specs.Rows.{cell_meaning}
use Rattle.ir_event.specs.declared.row.Cell.{Cell}
use Rattle.ir_text.proofs.Rows.{one_more, no_more}
use Rattle.mlir_work_session_base.specs.RowText.{cell_text}
use Rattle.mlir_work_session_base.proofs.rows.write_cells.Goals as goal
use Rattle.ir_event.proofs.of_trees.Steps.{next_left}

pub cells-preserved : goal.cells-preserved
cells-preserved c =
    one_more (codes " ") _ c.cells.out.items c.write_space.new.out.items c.write_cell.new.out.items (cell_text (cell_meaning c.args.ctx.now c.cell-item.result)) c.cells.first _ _ (ap (λ (cs : List Cell). map cell_text (map (cell_meaning c.args.ctx.now) cs)) (next_left c.args.cells.now c.cells.cell-index c.cell-item.result c.cells-test.true c.cell-item.is)) c.in_ok-write_space.ensures c.in_ok-write_cell.ensures c.cells.invariant

pub returns : goal.returns
returns c = no_more (codes " ") _ c.cells.out.items c.cells.first (λ (cs : List Cell). map cell_text (map (cell_meaning c.args.ctx.now) cs)) c.args.cells.now c.cells.cell-index c.cells-test.false refl c.cells.invariant
