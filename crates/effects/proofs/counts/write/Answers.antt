use Rattle.std.proofs.Common.{subst, is_some, ◌≡◌, ℕ, ◌≤◌, Some, true, ap, sym, ◌∙◌, arith, cond, rules, length, ltb-true}
use Rattle.std.specs.Prelude.{IsSome}
use Rattle.std.specs.Ordering.{nat_cmp}
use Rattle.std.specs.BTreeMap.{is_at}
use Rattle.listeners_support.specs.Map as idmap
use Rattle.effects.specs.Counts.{counts_in, with_count}
use Rattle.effects.specs.Marks.{is_zero}
use Rattle.effects.proofs.Changes.{on_true_is}
use Rattle.effects.proofs.Marked.{marked, roomy}
use Rattle.effects.proofs.counts.write.Goals as goal
use Rattle.ir_event.proofs.of_types.Truths.{same_test}

pub mark-requires : goal.mark-requires
mark-requires c =
    let done : c.write.result ≡ true = search rules in
    let some : IsSome (counts_in c.args.counts.now c.args.op) =
    subst (λ x. is_some (counts_in c.args.counts.now x) ≡ true) c.number.ensures (sym c.write.ensures.had ∙ done) in
    ltb-true _ _ (c.args.counts.now.headroom c.args.op some)

pub invariant_of-counts : goal.invariant_of-counts
invariant_of-counts c =
    let f = counts_in c.args.counts.now in
    let g = idmap.get c.write.new.self in
    let done : c.write.result ≡ true = search rules in
    let some : IsSome (f c.args.op) = subst (λ x. is_some (f x) ≡ true) c.number.ensures (sym c.write.ensures.had ∙ done) in
    let is : (y : ℕ) → g y ≡ with_count c.args.op (Some c.args.count) f y =
    λ y. on_true_is c.write.result _ done c.write.ensures.updates y ∙ ap (λ x. cond (is_at (nat_cmp x) y) (Some c.args.count) (f y)) c.number.ensures ∙ ap (λ b. cond b (Some c.args.count) (f y)) (same_test c.args.op y) in
    let headroom = ltb-true _ _ (c.args.counts.now.headroom c.args.op some) in
    let set = c.args.counts.now.unused in
    let new = c.mark.new.unused in
    let wide : length set ≤ length new = omega (arith, c.mark.ensures.headroom) in
    record {
      marked = marked f g set new c.args.op (Some c.args.count) is is_zero c.args.counts.now.marked c.mark.ensures.has;
      headroom = roomy f g set new c.args.op (Some c.args.count) is c.args.counts.now.headroom wide (λ h. omega (arith, headroom, wide));
    }
