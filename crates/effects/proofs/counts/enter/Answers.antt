use Rattle.std.proofs.Common.{◌≡◌, ℕ, ◌*◌, ◌<◌, ◌≤◌, Some, true, arith, rules, length}
use Rattle.std.specs.Ordering.{nat_cmp}
use Rattle.listeners_support.specs.Map as idmap
use Rattle.effects.specs.Counts.{counts_in}
use Rattle.effects.specs.Marks.{is_zero}
use Rattle.effects.proofs.Changes.{on_true_is}
use Rattle.effects.proofs.Marked.{marked, roomy, same_marks, more_headroom}
use Rattle.effects.proofs.counts.enter.Goals as goal

pub invariant_of-counts-2 : goal.invariant_of-counts-2
invariant_of-counts-2 c =
    let f = counts_in c.args.counts.now in
    let g = idmap.get c.record_count.new.counts in
    let n = Some c.if-kept.count in
    let yes : c.record_count.result ≡ true = search rules in
    let is = on_true_is c.record_count.result _ yes c.record_count.ensures.there in
    let set = c.args.counts.now.unused in
    let mid = c.reserve.new.self in
    let new = c.mark.new.unused in
    let wide : length mid ≤ length new = omega (arith, c.mark.ensures.headroom) in
    let here : c.args.op < 64 * length mid = search rules in
    record {
      marked = marked f g mid new c.args.op n is is_zero (same_marks is_zero f set mid c.args.counts.now.marked c.reserve.ensures.same) c.mark.ensures.has;
      headroom = roomy f g mid new c.args.op n is (more_headroom f set mid c.args.counts.now.headroom c.reserve.ensures.grows) wide (λ h. omega (arith, here, wide));
    }
