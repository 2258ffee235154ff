use Rattle.std.proofs.Common.{◌≡◌, ◌++◌, eqb, length}
use Rattle.listeners_symbols.specs.Symbols.{duplicate_lines}
use Rattle.listeners_symbols.specs.Lines.{cells_of, lines_cells}
use Rattle.listeners_symbols.proofs.report.push_duplicates.Given as goal

abbrev pub invariant-loop-rest : goal.invariant-loop-rest
invariant-loop-rest l = cells_of l.out.items ++ lines_cells (duplicate_lines eqb l.fn.definitions l.rest) ≡ cells_of l.fn.out.items ++ lines_cells (duplicate_lines eqb l.fn.definitions l.fn.definitions)

abbrev pub decreases-loop-rest : goal.decreases-loop-rest
decreases-loop-rest l = length l.rest
