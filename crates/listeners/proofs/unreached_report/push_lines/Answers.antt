use Rattle.std.proofs.Common.{◌∙◌, ap, sym, ◌++◌}
use Rattle.ir_event.specs.declared.row.Cell.TheVariants as cell
use Rattle.listeners_symbols.specs.Listeners.{kept_at}
use Rattle.listeners_symbols.specs.Lines.{cells_of}
use Rattle.listeners_symbols.proofs.Telling.{none_reported, one_reported}
use Rattle.listeners.specs.Unreached.{line_cells}
use Rattle.listeners.specs.Marks.{left_at}
use Rattle.listeners.specs.Lines.{line_by, lines_cells}
use Rattle.listeners.proofs.Silent.{lines_reported}
use Rattle.listeners.proofs.unreached_report.push_lines.Goals as goal

pub loop-op-preserved : goal.loop-op-preserved
loop-op-preserved c =
    one_reported (line_by (left_at c.args.left.now)) (kept_at c.args.roles.now) (line_cells cell.Op cell.Name) c.in-Some.op.now c.next.new.self c.loop-op.op-iterator
    (cells_of c.loop-op.out.items) (cells_of c.push_line_at.new.out.items) _ (sym c.in-Some.ensures.steps) c.in_ok-push_line_at.ensures c.loop-op.invariant

pub returns : goal.returns
returns c =
    none_reported (line_by (left_at c.args.left.now)) (kept_at c.args.roles.now) (line_cells cell.Op cell.Name) c.loop-op.op-iterator (cells_of c.loop-op.out.items) _ c.in-None.ensures.steps.0 c.loop-op.invariant
    ∙ ap (λ l. cells_of c.args.out.now.items ++ lines_cells l) (lines_reported c.args.roles.now (left_at c.args.left.now) c.ordered.ensures.all c.ordered.ensures.hidden)
