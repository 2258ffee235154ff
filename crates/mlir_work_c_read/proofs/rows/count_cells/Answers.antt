use Rattle.std.proofs.Common.{rules, ◌≡◌, ◌+◌, ap, length, arith}
use Rattle.std.specs.Prelude.{min}
use Rattle.ir_event.specs.declared.row.Row.{Row}
use Rattle.mlir_work_c_read.specs.Rows.{cells_numbers}
use Rattle.mlir_work_c_read.proofs.Joining.{lengths_of, none_of}
use Rattle.mlir_work_c_read.proofs.Lengths.{cells_length}
use Rattle.mlir_work_c_read.proofs.rows.count_cells.Goals as goal

pub rows-preserved : goal.rows-preserved
rows-preserved c =
    let cells = c.row-item.result.cells.items in
    let many : c.len.result ≡ length cells = search rules in
    let sum : c.saturating_add-count.result ≡ min (c.rows.count + c.len.result) 18446744073709551615 = search rules in
    let parts = lengths_of (λ (row : Row). cells_numbers row.cells.items) c.rows.rest.now c.row-item.result _ c.in-len1-up.len_at_least c.row-item.is in
    let same = cells_length cells in
    let whole = c.rows.invariant.0 in
    (omega (arith, many, sum, parts, same, whole), omega (arith, sum))

pub returns : goal.returns
returns c =
    let none = ap length (none_of (λ (row : Row). cells_numbers row.cells.items) c.rows.rest.now c.in_default.len_below) in
    let whole = c.rows.invariant.0 in
    let fits = c.rows.invariant.1 in
    omega (arith, none, whole, fits)
