use Rattle.std.proofs.Common.{◌∙◌, ap, sym, List}
use Rattle.ir_event.specs.trees.Meaning.{meaning}
use Rattle.ir_event.specs.trees.Tree.{Op}
use Rattle.ir_event.specs.trees.View.{region_view}
use Rattle.ir_event.specs.trees.declared.tree.TreeRegion.{TreeRegion}
use Rattle.ir_event.proofs.of_trees.Steps.{next_left}
use Rattle.ir_text.specs.View.{ops_in, region_in, regions_in}
use Rattle.ir_text.proofs.Walks.{inside_of, known_of}
use Rattle.mlir_work_session_base.specs.OperationWalk.{all_visited, visited, walk_view}
use Rattle.mlir_work_session_base.specs.PlacedOps.{ops_placed, placed, region_placed, regions_placed}
use Rattle.mlir_work_session_base.proofs.OperationWalk.{op_next, ops_end, region_next, regions_end, the_visited}
use Rattle.mlir_work_session_base.proofs.operation_walk.+walk.Goals as goal

pub walk_op-regions-preserved : goal.walk_op-regions-preserved
walk_op-regions-preserved t c =
    let test = rw c.deref-region-items.ensures.value at c.regions-test.true in
    let is = rw c.deref-region-items.ensures.value at c.region-item.is in
    record {
      walk = region_next c.args.ctx.now c.tree.inside.id c.regions.number c.region-item.result c.tree.inside.regions.items _ _ _ test is c.in_ok-walk_region.ensures c.regions.invariant.walk;
      inside = (inside_of _ c.region-item.result _ _ (next_left c.tree.inside.regions.items c.regions.number c.region-item.result test is) c.regions.invariant.inside).1;
    }

pub walk_region-ops-preserved : goal.walk_region-ops-preserved
walk_region-ops-preserved t c =
    record {
      walk = op_next c.args.ctx.now c.args.parent c.args.number c.ops.index c.op-item.result c.deref-op-items.result.now _ _ _ c.ops-test.true c.op-item.is c.in_ok-walk_op-in-Block.ensures c.ops.invariant.walk;
      inside = (known_of _ c.op-item.result _ _ (next_left c.deref-op-items.result.now c.ops.index c.op-item.result c.ops-test.true c.op-item.is) c.ops.invariant.inside).1;
    }

pub walk_op-returns : goal.walk_op-returns
walk_op-returns t c =
    let before = walk_view c.args.writer.now in
    let rest = regions_placed c.tree.inside.id 0 (regions_in c.args.ctx.now c.tree.inside.regions.items) in
    let own = λ (o : Op). the_visited (record { place = c.args.place.now; operation = meaning c.args.ctx.now o }) in
    regions_end c.args.ctx.now c.tree.inside.id c.regions.number c.tree.inside.regions.items _ _ (rw c.deref-region-items.ensures.value at c.regions-test.false) c.regions.invariant.walk
    ∙ ap (all_visited rest) c.in_ok-visit.ensures
    ∙ ap (λ (o : Op). all_visited rest (visited (own o) before)) (sym c.tree.view_is)
    ∙ ap (λ (o : Op). all_visited (placed c.args.place.now (meaning c.args.ctx.now o)) before) c.tree.view_is

pub walk_region-returns-after-ops : goal.walk_region-returns-after-ops
walk_region-returns-after-ops t c =
    ops_end c.args.ctx.now c.args.parent c.args.number c.ops.index c.deref-op-items.result.now _ _ c.ops-test.false c.ops.invariant.walk
    ∙ ap (λ (os : List Op). all_visited (ops_placed c.args.parent c.args.number 0 (ops_in c.args.ctx.now os)) (walk_view c.args.writer.now)) c.deref-op-items.ensures.value
    ∙ ap (λ (r : TreeRegion). all_visited (region_placed c.args.parent c.args.number (region_in c.args.ctx.now (region_view r))) (walk_view c.args.writer.now)) (sym c.in-Block.is)
