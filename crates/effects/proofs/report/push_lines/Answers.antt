use Rattle.std.proofs.Common.{◌≡◌, ℕ, ◌+◌, ◌-◌, List, ◌++◌, sym, ap, ◌∙◌, arith, map, rules, append-nil}
use Rattle.ir_event.specs.declared.row.Row.{Row}
use Rattle.ir_event.specs.declared.row.Cell.{Cell}
use Rattle.ir_event.specs.declared.row.Cell.TheVariants.{Op, Tag}
use Rattle.effects.specs.Picked.{said_row, acting_numbers}
use Rattle.effects.specs.Reports.{cells_of}
use Rattle.effects.specs.Walks.{rows_at, row_at}
use Rattle.effects.proofs.Picking.{acting_rows, next_acting, one_more}
use Rattle.effects.proofs.report.push_lines.Goals as goal

pub returns : goal.returns
returns c ordered =
    let set = c.args.rows.now.acting in
    let m = c.args.rows.now.rows in
    let preceding : List (List Cell) = map (λ (r : Row). r.cells.items) c.args.out.now.items in
    let whole : c.ops.from + 0 ≡ c.ops.from = omega arith in
    sym (append-nil _) ∙ c.ops.invariant 0
    ∙ ap (λ k. preceding ++ map (cells_of Op Tag) (acting_numbers set (rows_at m) 0 k)) whole
    ∙ ap (λ xs. preceding ++ map (cells_of Op Tag) xs) (acting_rows set m c.args.rows.now.marked ordered c.ops.from c.in_default.ensures)

pub ops-preserved : goal.ops-preserved
ops-preserved c n =
    let set = c.args.rows.now.acting in
    let rows = row_at c.args.rows.now in
    let from = c.ops.from in
    let op = c.in-Some.op in
    let next = c.in-Some.ensures in
    let l = next.0 in
    let cells : Row → List Cell = λ r. r.cells.items in
    let grown : map cells c.push_row.new.out.items ≡ map cells c.ops.out.items ++ map (cells_of Op Tag) (said_row op (rows op)) = search rules in
    let all : from + ((op - from) + (1 + n)) ≡ (op + 1) + n = omega (arith, l) in
    one_more (cells_of Op Tag) (map cells c.ops.out.items) (map cells c.push_row.new.out.items) _ (acting_numbers set rows from ((op - from) + (1 + n))) (said_row op (rows op)) (acting_numbers set rows (op + 1) n)
    grown (next_acting set rows from op n next)
    (c.ops.invariant ((op - from) + (1 + n)) ∙ ap (λ k. map cells c.args.out.now.items ++ map (cells_of Op Tag) (acting_numbers set rows 0 k)) all)
