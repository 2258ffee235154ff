use Rattle.std.proofs.Common.{◌≡◌, ap, map, ◌+◌, ◌-◌, ◌^◌, min, ℕ, List, drop, arith}
use Rattle.ir_tree.specs.Tree.{Op, regions_of, ops_of}
use Rattle.ir_tree.specs.Limits.{depth, regions_depth, region_depth, ops_depth}
use Rattle.ir_tree.specs.View.{region_view}
use Rattle.ir_tree.specs.declared.tree.TreeRegion.{TreeRegion}
use Rattle.ir_tree.proofs.Steps.{next_left, most_next}
use Rattle.ir_tree.proofs.count.+depth.Goals as goal

inner : (depth one most : ℕ) → one ≡ min depth (2 ^ 64 - 1) → most ≡ min (one + 1) (2 ^ 64 - 1) → most ≡ min (depth + 1) (2 ^ 64 - 1)
inner depth one most e f = omega arith

pub depth-loop-region-preserved : goal.depth-loop-region-preserved
depth-loop-region-preserved t c =
    let xs = c.deref-region-items.result.now in
    let n = c.loop-region.region-index in
    let left = λ (xs : List TreeRegion). regions_depth (regions_of (map region_view xs)) in
    let next = ap left (next_left xs n c.region-item.result c.loop-region-test.true c.region-item.is) in
    most_next c.loop-region.most c.depth_of_region.result (region_depth (region_view c.region-item.result)) c.max-most.result (left (drop n xs)) (left (drop (n + 1) xs)) _ c.depth_of_region.ensures c.max-most.ensures next c.loop-region.invariant

pub depth_of_region-loop-op-preserved : goal.depth_of_region-loop-op-preserved
depth_of_region-loop-op-preserved t c =
    let xs = c.deref-op-items.result.now in
    let n = c.loop-op.op-index in
    let left = λ (xs : List Op). ops_depth (ops_of xs) in
    let next = ap left (next_left xs n c.op-item.result c.loop-op-test.true c.op-item.is) in
    let own = inner (depth c.op-item.result) c.depth.result c.saturating_add.result c.depth.ensures c.saturating_add.ensures in
    most_next c.loop-op.most c.saturating_add.result (depth c.op-item.result + 1) c.max-most.result (left (drop n xs)) (left (drop (n + 1) xs)) _ own c.max-most.ensures next c.loop-op.invariant
