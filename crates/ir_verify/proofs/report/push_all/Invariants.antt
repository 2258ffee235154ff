use Rattle.std.proofs.Common.{◌≡◌, ◌++◌, map}
use Rattle.ir_verify_base.specs.events.declared.row.Row.{Row}
use Rattle.ir_verify.specs.Reports.{all_cells}
use Rattle.ir_verify.proofs.report.push_all.Given as goal

abbrev pub invariant-loop-op : goal.invariant-loop-op
invariant-loop-op l = map (λ (r : Row). r.cells.items) l.out.items ++ all_cells l.op-iterator ≡ map (λ (r : Row). r.cells.items) l.initial.out.items ++ all_cells l.table.entries
