use Rattle.std.proofs.Common.{◌∙◌, ap, sym, map, ◌+◌, ℕ, List, drop}
use Rattle.std.specs.Prelude.{option_and_then}
use Rattle.ir_tree.specs.Tree.{Op, regions_of, ops_of}
use Rattle.ir_tree.specs.Numbered.{regions_after, ops_after}
use Rattle.ir_tree.specs.View.{region_view}
use Rattle.ir_tree.specs.declared.tree.TreeRegion.{TreeRegion}
use Rattle.ir_tree.proofs.Steps.{left_next}
use Rattle.ir_tree.proofs.numbered.+numbered.Goals as goal

pub number_after-loop-region-preserved : goal.number_after-loop-region-preserved
number_after-loop-region-preserved t c =
    let xs = c.deref-region-items.result.now in
    let n = c.loop-region.region-index in
    let left = λ (next : ℕ) (xs : List TreeRegion). regions_after next (regions_of (map region_view xs)) in
    let next = ap (option_and_then (λ m. left m (drop (n + 1) xs))) (sym c.number_after_region.ensures.after ∙ c.in-Some.is) in
    (c.in-Some.ensures.fits, left_next (left c.loop-region.next) (left c.in-Some.number) xs n c.region-item.result (left (c.args.from + 1) xs) c.loop-region-test.true c.region-item.is next c.loop-region.invariant.1)

pub number_after_region-loop-op-preserved : goal.number_after_region-loop-op-preserved
number_after_region-loop-op-preserved t c =
    let xs = c.deref-op-items.result.now in
    let n = c.loop-op.op-index in
    let left = λ (next : ℕ) (xs : List Op). ops_after next (ops_of xs) in
    let next = ap (option_and_then (λ m. left m (drop (n + 1) xs))) (sym c.number_after.ensures.after ∙ c.in-Some.is) in
    (c.in-Some.ensures.fits, left_next (left c.loop-op.next) (left c.in-Some.number) xs n c.op-item.result (left c.args.from xs) c.loop-op-test.true c.op-item.is next c.loop-op.invariant.1)
