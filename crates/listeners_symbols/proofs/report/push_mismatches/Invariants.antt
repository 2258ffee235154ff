use Rattle.std.proofs.Common.{◌≡◌, ◌++◌}
use Rattle.listeners_symbols.specs.Listeners.{kept_at}
use Rattle.listeners_symbols.specs.Lines.{call_by, cells_of, lines_cells, numbers_at}
use Rattle.listeners_symbols.specs.Telling.{contributions}
use Rattle.listeners_symbols.proofs.report.push_mismatches.Given as goal

abbrev pub invariant-loop-op : goal.invariant-loop-op
invariant-loop-op l =
    cells_of l.out.items ++ lines_cells (contributions (call_by (numbers_at l.fn.roles) l.fn.definitions) (kept_at l.fn.roles) l.op-iterator)
    ≡ cells_of l.fn.out.items ++ lines_cells (contributions (call_by (numbers_at l.fn.roles) l.fn.definitions) (kept_at l.fn.roles) l.fn.roles.symbol_ops.keys)
