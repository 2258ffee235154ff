use Rattle.std.proofs.Common.{◌≡◌, ℕ, ◌+◌, ◌-◌, ◌++◌, map}
use Rattle.ir_event.specs.declared.row.Row.{Row}
use Rattle.ir_event.specs.declared.row.Cell.TheVariants.{Op}
use Rattle.effects.specs.Reports.{cell_of}
use Rattle.effects.specs.Walks.{row_at}
use Rattle.effects.specs.Picked.{idle_numbers}
use Rattle.effects.proofs.report.push_dead_lines.Given as goal

abbrev pub invariant-ops : goal.invariant-ops
invariant-ops l =
    (n : ℕ) → map (λ (r : Row). r.cells.items) l.out.items ++ map (cell_of Op) (idle_numbers l.counts.unused (row_at l.rows) l.from n)
    ≡ map (λ (r : Row). r.cells.items) l.initial.out.items ++ map (cell_of Op) (idle_numbers l.counts.unused (row_at l.rows) 0 (l.from + n))

abbrev pub decreases-ops : goal.decreases-ops
decreases-ops l = 4294967296 - l.from
