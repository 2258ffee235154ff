use Rattle.std.proofs.Common.{◌≡◌, ◌++◌, length}
use Rattle.listeners_symbols.specs.Symbols.{definition_lines}
use Rattle.listeners_symbols.specs.Lines.{cells_of, lines_cells}
use Rattle.listeners_symbols.proofs.report.push_definitions.Given as goal

abbrev pub invariant-loop-rest : goal.invariant-loop-rest
invariant-loop-rest l = cells_of l.out.items ++ lines_cells (definition_lines l.rest) ≡ cells_of l.fn.out.items ++ lines_cells (definition_lines l.fn.definitions)

abbrev pub decreases-loop-rest : goal.decreases-loop-rest
decreases-loop-rest l = length l.rest
