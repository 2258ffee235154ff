use Rattle.std.proofs.Common.{◌≡◌, ◌∙◌, ap, [], None}
use Rattle.std.proofs.lemmas.List.{nil_from_length}
use Rattle.listeners_symbols.specs.Symbols.{definitions}
use Rattle.listeners_symbols.specs.Lines.{cells_of, numbered}
use Rattle.listeners.specs.Lines.{lines_cells}
use Rattle.listeners.proofs.Silent.{no_lines, none_marked}
use Rattle.listeners.proofs.unreached_report.lines.Goals as goal

pub returns-then-is_empty-clause-rows : goal.returns-then-is_empty-clause-rows
returns-then-is_empty-clause-rows c =
    let m = c.args.roles.now in
    let none : m.hidden.keys ≡ [] = nil_from_length m.hidden.keys (c.is_empty.ensures.0 c.if-is_empty.true) in (
      λ x. None,
      none_marked m (definitions (numbered m.all.entries)) none,
      ap cells_of c.new.ensures.items ∙ ap lines_cells (no_lines m c.ordered.ensures.all c.ordered.ensures.hidden none),
    )
