use Rattle.std.proofs.Common.{rules, ◌≡◌, ◌∙◌, ◌+◌, ap, sym, length}
use Rattle.std.specs.Prelude.{min}
use Rattle.ir_event.specs.declared.row.Row.{Row}
use Rattle.mlir_work_c_read.specs.Filled.{over_from}
use Rattle.mlir_work_c_read.specs.Rows.{cells_numbers}
use Rattle.mlir_work_c_read.proofs.Joining.{step_on}
use Rattle.mlir_work_c_read.proofs.Lengths.{cells_length}
use Rattle.mlir_work_c_read.proofs.rows.write_rows.Goals as goal

pub rows-preserved : goal.rows-preserved
rows-preserved c =
    let cells = c.row-item.result.cells.items in
    let same : c.deref.result.now ≡ cells = search rules in
    let at = c.rows.at in
    let into = c.rows.into in
    step_on (λ (row : Row). cells_numbers row.cells.items) c.rows.rest.now c.row-item.result _ _ at c.write_cells-at.result into c.write_cells-at.new.into c.args.into.now
    c.in-len1-up.len_at_least c.row-item.is (c.write_cells-at.ensures.written ∙ ap (λ v. over_from at (cells_numbers v) into) same)
    (c.write_cells-at.ensures.count ∙ ap (λ v. min (at + length v) (length into)) same ∙ ap (λ n. min (at + n) (length into)) (sym (cells_length cells))) c.rows.invariant
