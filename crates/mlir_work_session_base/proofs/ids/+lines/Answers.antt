use Rattle.std.proofs.Common.{◌∙◌, ap, sym, refl, map, ◌++◌, ◌∷◌, [], ℕ, List}
use Rattle.ir_event.specs.trees.Tree.{Op, regions_of, ops_of}
use Rattle.ir_event.specs.trees.View.{region_view}
use Rattle.ir_event.specs.trees.declared.tree.TreeRegion.{TreeRegion}
use Rattle.ir_event.proofs.of_trees.Steps.{made_next, made_all, made_after}
use Rattle.mlir_work_session_base.specs.IdsText.{line_ids, ops_line_ids, region_line_ids, regions_line_ids}
use Rattle.mlir_work_session_base.proofs.ids.+lines.Goals as goal

pub push_lines-loop-region-preserved : goal.push_lines-loop-region-preserved
push_lines-loop-region-preserved t c =
    let xs = c.deref-region-items.result.now in
    let x = c.tree.inside.id in
    let todo = λ (n : ℕ) (xs : List TreeRegion). regions_line_ids x (regions_of (map region_view xs)) in
    made_next todo xs c.loop-region.region-index c.region-item.result (region_line_ids x (region_view c.region-item.result)) c.loop-region.out.items c.push_region_lines.new.out.items (c.push.new.self.items ++ todo 0 xs)
    c.loop-region-test.true c.region-item.is c.in_ok-push_region_lines.ensures refl c.loop-region.invariant

pub push_lines-returns : goal.push_lines-returns
push_lines-returns t c =
    let xs = c.deref-region-items.result.now in
    let x = c.tree.inside.id in
    let own = x ∷ [] in
    let todo = λ (n : ℕ) (xs : List TreeRegion). regions_line_ids x (regions_of (map region_view xs)) in
    let all = made_all todo xs c.loop-region.region-index c.loop-region.out.items (c.push.new.self.items ++ todo 0 xs) refl c.loop-region-test.false c.loop-region.invariant in
    made_after c.args.out.now.items own (todo 0 xs) c.push.new.self.items c.loop-region.out.items (line_ids c.args.tree.now) c.in_ok-push.ensures.items all
    (ap (λ (xs : List TreeRegion). own ++ todo 0 xs) c.deref-region-items.ensures.value ∙ ap line_ids c.tree.view_is)

pub push_region_lines-loop-op-preserved : goal.push_region_lines-loop-op-preserved
push_region_lines-loop-op-preserved t c =
    let xs = c.deref-op-items.result.now in
    let todo = λ (n : ℕ) (xs : List Op). ops_line_ids (ops_of xs) in
    made_next todo xs c.loop-op.op-index c.op-item.result (line_ids c.op-item.result) c.loop-op.out.items c.push_lines.new.out.items (c.push_label.new.out.items ++ todo 0 xs)
    c.loop-op-test.true c.op-item.is c.in_ok-push_lines-in-Block.ensures refl c.loop-op.invariant
