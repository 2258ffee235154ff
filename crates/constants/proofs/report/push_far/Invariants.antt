use Rattle.std.proofs.Common.{◌≡◌, ◌++◌, map}
use Rattle.ir_event.specs.declared.row.Row.{Row}
use Rattle.constants.specs.Tables.{cells_of}
use Rattle.constants.proofs.report.push_far.Given as goal

abbrev pub invariant-loop-id : goal.invariant-loop-id
invariant-loop-id l = map (λ (r : Row). r.cells.items) l.out.items ++ map cells_of l.id-iterator ≡ map (λ (r : Row). r.cells.items) l.initial.out.items ++ map cells_of l.far.entries
