use Rattle.std.proofs.Common.{◌∙◌, ◌++◌, eqb}
use Rattle.listeners_symbols.specs.Symbols.{lines_with}
use Rattle.listeners_symbols.specs.Lines.{cells_of, lines_cells, numbered, numbers_at}
use Rattle.listeners_symbols.proofs.report.lines.Goals as goal

pub returns-clause-rows : goal.returns-clause-rows
returns-clause-rows c =
    let m = c.args.roles.now in
    c.in_ok-push_lines.ensures
    ∙ (λ i. cells_of (c.new-out.ensures.items i) ++ lines_cells (lines_with eqb eqb (numbers_at m) (c.in_ok-definitions.ensures i) (λ n. c.in_ok-possible.ensures n i) (numbered m.all.entries)))
