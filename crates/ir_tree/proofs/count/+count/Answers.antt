use Rattle.std.proofs.Common.{◌∙◌, ap, map, ◌+◌, List, length, length-append, drop}
use Rattle.ir_tree.specs.Tree.{Op, regions_of, ops_of}
use Rattle.ir_tree.specs.Ids.{ids, regions_ids, region_ids, ops_ids}
use Rattle.ir_tree.specs.View.{region_view}
use Rattle.ir_tree.specs.declared.tree.TreeRegion.{TreeRegion}
use Rattle.ir_tree.proofs.Steps.{next_left, sum_next}
use Rattle.ir_tree.proofs.count.+count.Goals as goal

pub op_count-loop-region-preserved : goal.op_count-loop-region-preserved
op_count-loop-region-preserved t c =
    let xs = c.deref-region-items.result.now in
    let n = c.loop-region.region-index in
    let own = region_ids (region_view c.region-item.result) in
    let left = λ (xs : List TreeRegion). regions_ids (regions_of (map region_view xs)) in
    let next = ap (λ xs. length (left xs)) (next_left xs n c.region-item.result c.loop-region-test.true c.region-item.is) ∙ length-append own (left (drop (n + 1) xs)) in
    sum_next c.loop-region.count c.region_op_count.result (length own) c.saturating_add-count.result (length (left (drop n xs))) (length (left (drop (n + 1) xs))) _ c.region_op_count.ensures c.saturating_add-count.ensures next c.loop-region.invariant.1

pub region_op_count-loop-op-preserved : goal.region_op_count-loop-op-preserved
region_op_count-loop-op-preserved t c =
    let xs = c.deref-op-items.result.now in
    let n = c.loop-op.op-index in
    let own = ids c.op-item.result in
    let left = λ (xs : List Op). ops_ids (ops_of xs) in
    let next = ap (λ xs. length (left xs)) (next_left xs n c.op-item.result c.loop-op-test.true c.op-item.is) ∙ length-append own (left (drop (n + 1) xs)) in
    sum_next c.loop-op.count c.op_count.result (length own) c.saturating_add-count.result (length (left (drop n xs))) (length (left (drop (n + 1) xs))) _ c.op_count.ensures c.saturating_add-count.ensures next c.loop-op.invariant.1
