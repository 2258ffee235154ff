use Rattle.mlir_work_session_base.proofs.RowWalks.{row_more, no_row}
use Rattle.mlir_work_session_base.proofs.rows.write_rows.Goals as goal

pub rows-preserved : goal.rows-preserved
rows-preserved c = row_more c.args.ctx.now c.args.rows.now c.rows.row-index c.row-item.result c.rows.out.items c.write_row.new.out.items _ c.rows-test.true c.row-item.is c.in_ok-write_row.ensures c.rows.invariant

pub returns : goal.returns
returns c = no_row c.args.ctx.now c.args.rows.now c.rows.row-index c.rows.out.items _ c.rows-test.false c.rows.invariant
