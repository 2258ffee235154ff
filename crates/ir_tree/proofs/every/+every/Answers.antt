use Rattle.std.proofs.Common.{◌≡◌, ◌∙◌, ap, sym, map, ◌&&◌, ◌+◌, List, drop, true}
use Rattle.ir_tree.specs.Tree.{Op, regions_of, ops_of}
use Rattle.ir_tree.specs.Limits.{every, regions_every, region_every, ops_every}
use Rattle.ir_tree.specs.View.{op_view, region_view}
use Rattle.ir_tree.specs.declared.tree.TreeRegion.{TreeRegion}
use Rattle.ir_tree.proofs.Steps.{left_next, left_none}
use Rattle.ir_tree.proofs.every.+every.Goals as goal

pub every_op-loop-region-preserved : goal.every_op-loop-region-preserved
every_op-loop-region-preserved g t c =
    let p = g.T.OpTest.passes c.args.test.now in
    let xs = c.deref-region-items.result.now in
    let n = c.loop-region.region-index in
    let left = λ (xs : List TreeRegion). regions_every p (regions_of (map region_view xs)) in
    left_next left left xs n c.region-item.result (left xs) c.loop-region-test.true c.region-item.is (ap (λ b. b && left (drop (n + 1) xs)) (sym c.if-not-every_op_of_region.ensures)) c.loop-region.invariant

pub every_op_of_region-loop-op-preserved : goal.every_op_of_region-loop-op-preserved
every_op_of_region-loop-op-preserved g t c =
    let p = g.T.OpTest.passes c.args.test.now in
    let xs = c.deref-op-items.result.now in
    let n = c.loop-op.op-index in
    let left = λ (xs : List Op). ops_every p (ops_of xs) in
    left_next left left xs n c.op-item.result (left xs) c.loop-op-test.true c.op-item.is (ap (λ b. b && left (drop (n + 1) xs)) (sym c.if-not-every_op.ensures)) c.loop-op.invariant

pub every_op_of_region-returns-after-loop-op : goal.every_op_of_region-returns-after-loop-op
every_op_of_region-returns-after-loop-op g t c =
    let p = g.T.OpTest.passes c.args.test.now in
    let xs = c.deref-op-items.result.now in
    let left = λ (xs : List Op). ops_every p (ops_of xs) in
    sym (ap (λ r. region_every p (region_view r)) c.in-Block.is ∙ ap left (sym c.deref-op-items.ensures.value) ∙ left_none left xs c.loop-op.op-index (left xs) c.loop-op-test.false c.loop-op.invariant)

pub every_op-returns : goal.every_op-returns
every_op-returns g t c =
    let p = g.T.OpTest.passes c.args.test.now in
    let xs = c.deref-region-items.result.now in
    let left = λ (xs : List TreeRegion). regions_every p (regions_of (map region_view xs)) in
    let here : true ≡ p (op_view c.root.inside) = c.if-not-test.ensures ∙ ap p (sym c.root.view_is) in
    let inside : true ≡ left c.root.inside.regions.items = sym (ap left (sym c.deref-region-items.ensures.value) ∙ left_none left xs c.loop-region.region-index (left xs) c.loop-region-test.false c.loop-region.invariant) in
    (λ i. here i && inside i) ∙ ap (every p) c.root.view_is
