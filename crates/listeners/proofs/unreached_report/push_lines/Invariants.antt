use Rattle.std.proofs.Common.{◌≡◌, ◌++◌}
use Rattle.listeners_symbols.specs.Listeners.{kept_at}
use Rattle.listeners_symbols.specs.Lines.{cells_of}
use Rattle.listeners_symbols.specs.Telling.{contributions}
use Rattle.listeners.specs.Marks.{left_at}
use Rattle.listeners.specs.Lines.{line_by, lines_cells}
use Rattle.listeners.proofs.unreached_report.push_lines.Given as goal

abbrev pub invariant-loop-op : goal.invariant-loop-op
invariant-loop-op l =
    cells_of l.out.items ++ lines_cells (contributions (line_by (left_at l.fn.left)) (kept_at l.fn.roles) l.op-iterator)
    ≡ cells_of l.fn.out.items ++ lines_cells (contributions (line_by (left_at l.fn.left)) (kept_at l.fn.roles) l.fn.roles.hidden.keys)
