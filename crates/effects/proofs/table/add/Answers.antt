use Rattle.std.proofs.Common.{◌≡◌, ℕ, ◌*◌, ◌<◌, ◌≤◌, Some, true, arith, rules, length}
use Rattle.effects.specs.Marks.{acts}
use Rattle.effects.specs.Walks.{rows_at, row_at}
use Rattle.effects.proofs.Changes.{on_true_is}
use Rattle.effects.proofs.Marked.{marked, roomy, same_marks, more_headroom}
use Rattle.effects.proofs.table.add.Goals as goal

pub invariant_of-rows-2 : goal.invariant_of-rows-2
invariant_of-rows-2 c =
    let f = row_at c.args.rows.now in
    let g = rows_at c.record_row.new.rows in
    let n = Some c.args.row.now in
    let yes : c.record_row.result ≡ true = search rules in
    let is = on_true_is c.record_row.result _ yes c.record_row.ensures.there in
    let set = c.args.rows.now.acting in
    let mid = c.reserve.new.self in
    let new = c.mark.new.acting in
    let wide : length mid ≤ length new = omega (arith, c.mark.ensures.headroom) in
    let here : c.args.op < 64 * length mid = search rules in
    record {
      marked = marked f g mid new c.args.op n is acts (same_marks acts f set mid c.args.rows.now.marked c.reserve.ensures.same) c.mark.ensures.has;
      headroom = roomy f g mid new c.args.op n is (more_headroom f set mid c.args.rows.now.headroom c.reserve.ensures.grows) wide (λ h. omega (arith, here, wide));
    }
