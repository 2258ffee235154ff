use Rattle.std.proofs.Common.{◌≡◌, ◌++◌}
use Rattle.std.specs.Ordering.{nat_cmp}
use Rattle.std.specs.BTreeSet.{contains}
use Rattle.listeners_symbols.specs.Listeners.{kept_at}
use Rattle.listeners_symbols.specs.Lines.{cells_of, lines_cells, numbers_at, references_by}
use Rattle.listeners_symbols.specs.Telling.{contributions}
use Rattle.listeners_symbols.proofs.report.push_all_references.Given as goal

abbrev pub invariant-loop-op : goal.invariant-loop-op
invariant-loop-op l =
    cells_of l.out.items ++ lines_cells (contributions (references_by (numbers_at l.fn.roles) l.fn.names.definitions (contains nat_cmp l.fn.names.possible) l.fn.resolved) (kept_at l.fn.roles) l.op-iterator)
    ≡ cells_of l.fn.out.items ++ lines_cells (contributions (references_by (numbers_at l.fn.roles) l.fn.names.definitions (contains nat_cmp l.fn.names.possible) l.fn.resolved) (kept_at l.fn.roles) l.fn.roles.symbol_ops.keys)
