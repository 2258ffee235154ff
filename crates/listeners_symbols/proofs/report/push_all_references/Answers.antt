use Rattle.std.proofs.Common.{◌∙◌, ap, sym, ◌++◌}
use Rattle.std.specs.Ordering.{nat_cmp}
use Rattle.std.specs.BTreeSet.{contains}
use Rattle.ir_event.specs.declared.row.Cell.TheVariants as cell
use Rattle.listeners_symbols.specs.Symbols.{line_cells}
use Rattle.listeners_symbols.specs.Listeners.{kept_at}
use Rattle.listeners_symbols.specs.Lines.{cells_of, lines_cells, numbers_at, references_by}
use Rattle.listeners_symbols.proofs.Telling.{none_reported, one_reported, references_reported}
use Rattle.listeners_symbols.proofs.report.push_all_references.Goals as goal

pub loop-op-preserved : goal.loop-op-preserved
loop-op-preserved c =
    one_reported (references_by (numbers_at c.args.roles.now) c.args.names.now.definitions (contains nat_cmp c.args.names.now.possible) c.args.resolved) (kept_at c.args.roles.now) (line_cells cell.Tag cell.Op cell.Name cell.Path) c.in-Some.op.now c.next.new.self c.loop-op.op-iterator
    (cells_of c.loop-op.out.items) (cells_of c.push_references_at.new.out.items) _ (sym c.in-Some.ensures.steps) c.in_ok-push_references_at.ensures c.loop-op.invariant

pub returns : goal.returns
returns c =
    none_reported (references_by (numbers_at c.args.roles.now) c.args.names.now.definitions (contains nat_cmp c.args.names.now.possible) c.args.resolved) (kept_at c.args.roles.now) (line_cells cell.Tag cell.Op cell.Name cell.Path) c.loop-op.op-iterator (cells_of c.loop-op.out.items) _ c.in-None.ensures.steps.0 c.loop-op.invariant
    ∙ ap (λ l. cells_of c.args.out.now.items ++ lines_cells l) (references_reported c.args.roles.now c.ordered.ensures.all c.ordered.ensures.symbol_ops (numbers_at c.args.roles.now) c.args.names.now.definitions (contains nat_cmp c.args.names.now.possible) c.args.resolved)
