use Rattle.std.proofs.Common.{◌≡◌, ◌∙◌, ap, sym, ◌&&◌, ◌+◌, List, drop, true}
use Rattle.ir_tree.specs.Tree.{Op}
use Rattle.ir_tree.specs.Limits.{every, ops_every, region_every, regions_every}
use Rattle.ir_tree.specs.declared.tree.TreeRegion.{TreeRegion}
use Rattle.ir_tree.proofs.Steps.{left_next, left_none}
use Rattle.ir_tree_blocks.specs.Read.{ops_meaning, region_meaning, regions_meaning}
use Rattle.ir_tree_blocks.specs.Whole.{has_good_regions}
use Rattle.ir_tree_blocks.proofs.conditions.+labels.Goals as goal

pub labels_in_regions_are_good-loop-region-preserved : goal.labels_in_regions_are_good-loop-region-preserved
labels_in_regions_are_good-loop-region-preserved t c =
    let xs = c.deref-region-items.result.now in
    let n = c.loop-region.region-index in
    let left = λ (xs : List TreeRegion). regions_every has_good_regions (regions_meaning c.args.ctx.now xs) in
    left_next left left xs n c.region-item.result (left xs) c.loop-region-test.true c.region-item.is
    (ap (λ b. b && left (drop (n + 1) xs)) (sym c.in_ok-labels_inside_are_good.ensures ∙ c.if-not-branch.false)) c.loop-region.invariant

pub labels_in_regions_are_good-returns : goal.labels_in_regions_are_good-returns
labels_in_regions_are_good-returns t c =
    let xs = c.deref-region-items.result.now in
    let left = λ (xs : List TreeRegion). regions_every has_good_regions (regions_meaning c.args.ctx.now xs) in
    sym (ap left (sym c.deref-region-items.ensures.value) ∙ left_none left xs c.loop-region.region-index (left xs) c.loop-region-test.false c.loop-region.invariant)

pub labels_inside_are_good-loop-op-preserved : goal.labels_inside_are_good-loop-op-preserved
labels_inside_are_good-loop-op-preserved t c =
    let xs = c.deref-op-items.result.now in
    let n = c.loop-op.op-index in
    let left = λ (xs : List Op). ops_every has_good_regions (ops_meaning c.args.ctx.now xs) in
    left_next left left xs n c.op-item.result (left xs) c.loop-op-test.true c.op-item.is
    (ap (λ b. b && left (drop (n + 1) xs)) (sym c.in_ok-labels_are_good.ensures ∙ c.if-not-branch.false)) c.loop-op.invariant

pub labels_inside_are_good-returns-after-loop-op : goal.labels_inside_are_good-returns-after-loop-op
labels_inside_are_good-returns-after-loop-op t c =
    let xs = c.deref-op-items.result.now in
    let left = λ (xs : List Op). ops_every has_good_regions (ops_meaning c.args.ctx.now xs) in
    sym (ap (λ g. region_every has_good_regions (region_meaning c.args.ctx.now g)) c.in-Block.is ∙ ap left (sym c.deref-op-items.ensures.value) ∙ left_none left xs c.loop-op.op-index (left xs) c.loop-op-test.false c.loop-op.invariant)
