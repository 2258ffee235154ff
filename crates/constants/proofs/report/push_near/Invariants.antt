use Rattle.std.proofs.Common.{◌≡◌, ◌++◌, drop, map}
use Rattle.listeners_support.specs.Map.{entries_from}
use Rattle.ir_event.specs.declared.row.Row.{Row}
use Rattle.constants.specs.Tables.{cells_of}
use Rattle.constants.proofs.report.push_near.Given as goal

abbrev pub invariant-loop-id : goal.invariant-loop-id
invariant-loop-id l = map (λ (r : Row). r.cells.items) l.out.items ++ map cells_of (entries_from l.id (drop l.id l.near)) ≡ map (λ (r : Row). r.cells.items) l.initial.out.items ++ map cells_of (entries_from 0 l.near)
