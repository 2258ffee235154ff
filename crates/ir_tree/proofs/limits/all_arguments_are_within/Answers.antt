use Rattle.std.proofs.Common.{ap, sym, map, ◌&&◌, ◌+◌, List, drop}
use Rattle.ir_tree.specs.Tree.{regions_of}
use Rattle.ir_tree.specs.Limits.{items_fit, all_arguments_pass}
use Rattle.ir_tree.specs.View.{region_view}
use Rattle.ir_tree.specs.declared.tree.TreeRegion.{TreeRegion}
use Rattle.ir_tree.proofs.Steps.{left_next}
use Rattle.ir_tree.proofs.limits.all_arguments_are_within.Goals as goal

pub loop-region-preserved : goal.loop-region-preserved
loop-region-preserved c =
    let xs = c.deref-region-items.result.now in
    let n = c.loop-region.region-index in
    let left = λ (xs : List TreeRegion). all_arguments_pass items_fit (regions_of (map region_view xs)) in
    left_next left left xs n c.region-item.result (left xs) c.loop-region-test.true c.region-item.is (ap (λ b. b && left (drop (n + 1) xs)) (sym c.if-not-arguments_are_within.ensures)) c.loop-region.invariant
