use Rattle.std.proofs.Common.{◌∙◌, ap, sym, refl, map, ◌++◌, ◌∷◌, [], ℕ, List}
use Rattle.ir_tree.specs.Tree.{Op, regions_of, ops_of}
use Rattle.ir_tree.specs.Ids.{ids, regions_ids, region_ids, ops_ids}
use Rattle.ir_tree.specs.View.{region_view}
use Rattle.ir_tree.specs.declared.tree.TreeRegion.{TreeRegion}
use Rattle.ir_tree.proofs.Steps.{made_next, made_all, made_after}
use Rattle.ir_tree.proofs.find.+ids.Goals as goal

pub push_ids-loop-region-preserved : goal.push_ids-loop-region-preserved
push_ids-loop-region-preserved t c =
    let xs = c.deref-region-items.result.now in
    let todo = λ (n : ℕ) (xs : List TreeRegion). regions_ids (regions_of (map region_view xs)) in
    made_next todo xs c.loop-region.region-index c.region-item.result (region_ids (region_view c.region-item.result)) c.loop-region.out.items c.push_region_ids.new.out.items (c.push.new.self.items ++ todo 0 xs)
    c.loop-region-test.true c.region-item.is c.in_ok-push_region_ids.ensures refl c.loop-region.invariant

pub push_ids-returns : goal.push_ids-returns
push_ids-returns t c =
    let xs = c.deref-region-items.result.now in
    let own = c.root.inside.id ∷ [] in
    let todo = λ (n : ℕ) (xs : List TreeRegion). regions_ids (regions_of (map region_view xs)) in
    let all = made_all todo xs c.loop-region.region-index c.loop-region.out.items (c.push.new.self.items ++ todo 0 xs) refl c.loop-region-test.false c.loop-region.invariant in
    made_after c.args.out.now.items own (todo 0 xs) c.push.new.self.items c.loop-region.out.items (ids c.args.root.now) c.in_ok-push.ensures.items all
    (ap (λ (xs : List TreeRegion). own ++ todo 0 xs) c.deref-region-items.ensures.value ∙ ap ids c.root.view_is)

pub push_region_ids-loop-op-preserved : goal.push_region_ids-loop-op-preserved
push_region_ids-loop-op-preserved t c =
    let xs = c.deref-op-items.result.now in
    let todo = λ (n : ℕ) (xs : List Op). ops_ids (ops_of xs) in
    made_next todo xs c.loop-op.op-index c.op-item.result (ids c.op-item.result) c.loop-op.out.items c.push_ids.new.out.items (c.args.out.now.items ++ todo 0 xs)
    c.loop-op-test.true c.op-item.is c.in_ok-push_ids.ensures refl c.loop-op.invariant

pub push_region_ids-returns-after-loop-op : goal.push_region_ids-returns-after-loop-op
push_region_ids-returns-after-loop-op t c =
    let xs = c.deref-op-items.result.now in
    let todo = λ (n : ℕ) (xs : List Op). ops_ids (ops_of xs) in
    made_all todo xs c.loop-op.op-index c.loop-op.out.items (c.args.out.now.items ++ todo 0 xs) refl c.loop-op-test.false c.loop-op.invariant
    ∙ ap (λ z. c.args.out.now.items ++ z) (ap (todo 0) c.deref-op-items.ensures.value ∙ ap (λ r. region_ids (region_view r)) (sym c.in-Block.is))
