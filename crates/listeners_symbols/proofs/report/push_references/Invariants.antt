use Rattle.std.proofs.Common.{◌≡◌, ◌++◌, eqb, length, map}
use Rattle.std.specs.Ordering.{nat_cmp}
use Rattle.std.specs.BTreeSet.{contains}
use Rattle.listeners_symbols.specs.Symbols.{reference_lines}
use Rattle.listeners_symbols.specs.Table.{reference_of}
use Rattle.listeners_symbols.specs.Lines.{cells_of, lines_cells, numbers_at}
use Rattle.listeners_symbols.proofs.report.push_references.Given as goal

abbrev pub invariant-loop-rest : goal.invariant-loop-rest
invariant-loop-rest l =
    cells_of l.out.items ++ lines_cells (reference_lines eqb (numbers_at l.fn.roles) l.fn.names.definitions (contains nat_cmp l.fn.names.possible) l.fn.resolved l.fn.user l.fn.role.table (map reference_of l.rest))
    ≡ cells_of l.fn.out.items ++ lines_cells (reference_lines eqb (numbers_at l.fn.roles) l.fn.names.definitions (contains nat_cmp l.fn.names.possible) l.fn.resolved l.fn.user l.fn.role.table (map reference_of l.fn.role.references.items))

abbrev pub decreases-loop-rest : goal.decreases-loop-rest
decreases-loop-rest l = length l.rest
