use Rattle.std.proofs.Common.{◌≡◌, ◌++◌, drop}
use Rattle.ir_event.specs.Rows.{rows_meaning}
use Rattle.mlir_work_session_base.specs.RowText.{rows_text}
use Rattle.mlir_work_session_base.proofs.rows.write_rows.Given as goal

abbrev pub invariant-rows : goal.invariant-rows
invariant-rows l = l.out.items ++ rows_text (rows_meaning l.ctx (drop l.row-index l.rows)) ≡ l.fn.out.items ++ rows_text (rows_meaning l.ctx l.rows)
