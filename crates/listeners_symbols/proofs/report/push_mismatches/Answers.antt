use Rattle.std.proofs.Common.{◌∙◌, ap, sym, ◌++◌}
use Rattle.ir_event.specs.declared.row.Cell.TheVariants as cell
use Rattle.listeners_symbols.specs.Symbols.{line_cells}
use Rattle.listeners_symbols.specs.Listeners.{kept_at}
use Rattle.listeners_symbols.specs.Lines.{call_by, cells_of, lines_cells, numbers_at}
use Rattle.listeners_symbols.proofs.Telling.{calls_reported, none_reported, one_reported}
use Rattle.listeners_symbols.proofs.report.push_mismatches.Goals as goal

pub loop-op-preserved : goal.loop-op-preserved
loop-op-preserved c =
    one_reported (call_by (numbers_at c.args.roles.now) c.args.definitions.now) (kept_at c.args.roles.now) (line_cells cell.Tag cell.Op cell.Name cell.Path) c.in-Some.op.now c.next.new.self c.loop-op.op-iterator
    (cells_of c.loop-op.out.items) (cells_of c.push_call_at.new.out.items) _ (sym c.in-Some.ensures.steps) c.in_ok-push_call_at.ensures c.loop-op.invariant

pub returns : goal.returns
returns c =
    none_reported (call_by (numbers_at c.args.roles.now) c.args.definitions.now) (kept_at c.args.roles.now) (line_cells cell.Tag cell.Op cell.Name cell.Path) c.loop-op.op-iterator (cells_of c.loop-op.out.items) _ c.in-None.ensures.steps.0 c.loop-op.invariant
    ∙ ap (λ l. cells_of c.args.out.now.items ++ lines_cells l) (calls_reported c.args.roles.now c.ordered.ensures.all c.ordered.ensures.symbol_ops (numbers_at c.args.roles.now) c.args.definitions.now)
