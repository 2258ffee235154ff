use Rattle.std.proofs.Common.{◌≡◌, ◌∙◌, ap, sym, ◌&&◌, ◌+◌, List, drop}
use Rattle.ir_tree.specs.declared.tree.TreeRegion.{TreeRegion}
use Rattle.ir_tree.proofs.Steps.{left_next, left_none}
use Rattle.ir_tree_blocks.specs.Form.{all_regions}
use Rattle.ir_tree_blocks.specs.Read.{regions_meaning}
use Rattle.ir_tree_blocks.specs.Whole.{has_good_labels}
use Rattle.ir_tree_blocks.proofs.conditions.regions_are_good.Goals as goal

pub loop-region-preserved : goal.loop-region-preserved
loop-region-preserved c =
    let xs = c.deref-region-items.result.now in
    let n = c.loop-region.region-index in
    let left = λ (xs : List TreeRegion). all_regions has_good_labels (regions_meaning c.args.ctx.now xs) in
    left_next left left xs n c.region-item.result (left xs) c.loop-region-test.true c.region-item.is
    (ap (λ b. b && left (drop (n + 1) xs)) (sym c.in_ok-has_good_labels.ensures ∙ c.if-not-branch.false)) c.loop-region.invariant

pub returns : goal.returns
returns c =
    let xs = c.deref-region-items.result.now in
    let left = λ (xs : List TreeRegion). all_regions has_good_labels (regions_meaning c.args.ctx.now xs) in
    sym (ap left (sym c.deref-region-items.ensures.value) ∙ left_none left xs c.loop-region.region-index (left xs) c.loop-region-test.false c.loop-region.invariant)
