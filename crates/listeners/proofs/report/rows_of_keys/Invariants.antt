use Rattle.std.proofs.Common.{◌≡◌, ◌++◌, map, drop}
use Rattle.ir_event.specs.declared.row.Row.{Row}
use Rattle.listeners.specs.Keys.{key_cells}
use Rattle.listeners.proofs.report.rows_of_keys.Given as goal

abbrev pub invariant-loop-key : goal.invariant-loop-key
invariant-loop-key l = map (λ (r : Row). r.cells.items) l.rows.items ++ map key_cells (drop l.key-index l.keys) ≡ map key_cells l.keys
