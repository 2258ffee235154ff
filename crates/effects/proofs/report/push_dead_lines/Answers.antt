use Rattle.std.proofs.Common.{◌≡◌, ℕ, ◌+◌, ◌-◌, List, ◌++◌, [], ◌∷◌, refl, sym, ap, ◌∙◌, arith, map, rules, append-nil}
use Rattle.ir_event.specs.declared.row.Row.{Row}
use Rattle.ir_event.specs.declared.row.Cell.{Cell}
use Rattle.ir_event.specs.declared.row.Cell.TheVariants.{Op}
use Rattle.effects.specs.Counts.{counts_in}
use Rattle.effects.specs.Picked.{idle_row, idle_numbers}
use Rattle.effects.specs.Reports.{cell_of, those}
use Rattle.effects.specs.Walks.{rows_at, row_at}
use Rattle.effects.proofs.Picking.{dead_numbers, next_idle, one_more}
use Rattle.effects.proofs.report.push_dead_lines.Goals as goal

pub returns : goal.returns
returns c ordered =
    let set = c.args.counts.now.unused in
    let m = c.args.rows.now.rows in
    let preceding : List (List Cell) = map (λ (r : Row). r.cells.items) c.args.out.now.items in
    let whole : c.ops.from + 0 ≡ c.ops.from = omega arith in
    sym (append-nil _) ∙ c.ops.invariant 0
    ∙ ap (λ k. preceding ++ map (cell_of Op) (idle_numbers set (rows_at m) 0 k)) whole
    ∙ ap (λ xs. preceding ++ map (cell_of Op) xs) (dead_numbers set (counts_in c.args.counts.now) m c.args.counts.now.marked ordered c.ops.from c.in_default.ensures)

pub ops-preserved : goal.ops-preserved
ops-preserved c n =
    let set = c.args.counts.now.unused in
    let rows = row_at c.args.rows.now in
    let from = c.ops.from in
    let op = c.in-Some.op in
    let next = c.in-Some.ensures in
    let l = next.0 in
    let cells : Row → List Cell = λ r. r.cells.items in
    let grown : map cells c.push_unused.new.out.items ≡ map cells c.ops.out.items ++ map (cell_of Op) (those ((op, idle_row (rows op)) ∷ [])) = search rules in
    let all : from + ((op - from) + (1 + n)) ≡ (op + 1) + n = omega (arith, l) in
    one_more (cell_of Op) (map cells c.ops.out.items) (map cells c.push_unused.new.out.items) _ (idle_numbers set rows from ((op - from) + (1 + n))) (those ((op, idle_row (rows op)) ∷ [])) (idle_numbers set rows (op + 1) n)
    grown (next_idle set rows from op n next)
    (c.ops.invariant ((op - from) + (1 + n)) ∙ ap (λ k. map cells c.args.out.now.items ++ map (cell_of Op) (idle_numbers set rows 0 k)) all)
