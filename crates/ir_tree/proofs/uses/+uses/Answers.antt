use Rattle.std.proofs.Common.{◌∙◌, ap, sym, refl, map, ◌++◌, ℕ, List}
use Rattle.ir_tree.specs.Tree.{Op, regions_of, ops_of}
use Rattle.ir_tree.specs.Uses.{operand_uses, uses_of, regions_uses, region_uses, ops_uses}
use Rattle.ir_tree.specs.View.{region_view}
use Rattle.ir_tree.specs.declared.tree.TreeRegion.{TreeRegion}
use Rattle.ir_tree.proofs.Steps.{made_next, made_all, made_after}
use Rattle.ir_tree.proofs.uses.+uses.Goals as goal

pub push_uses-loop-region-preserved : goal.push_uses-loop-region-preserved
push_uses-loop-region-preserved t c =
    let v = c.args.value.now in
    let xs = c.deref-region-items.result.now in
    let todo = λ (n : ℕ) (xs : List TreeRegion). regions_uses v (regions_of (map region_view xs)) in
    made_next todo xs c.loop-region.region-index c.region-item.result (region_uses v (region_view c.region-item.result)) c.loop-region.out.items c.push_region_uses.new.out.items (c.push_own_uses.new.out.items ++ todo 0 xs)
    c.loop-region-test.true c.region-item.is c.in_ok-push_region_uses.ensures refl c.loop-region.invariant

pub push_uses-returns : goal.push_uses-returns
push_uses-returns t c =
    let v = c.args.value.now in
    let root = c.root.inside in
    let xs = c.deref-region-items.result.now in
    let own = operand_uses v root.id 0 root.operands.items in
    let todo = λ (n : ℕ) (xs : List TreeRegion). regions_uses v (regions_of (map region_view xs)) in
    let all = made_all todo xs c.loop-region.region-index c.loop-region.out.items (c.push_own_uses.new.out.items ++ todo 0 xs) refl c.loop-region-test.false c.loop-region.invariant in
    made_after c.args.out.now.items own (todo 0 xs) c.push_own_uses.new.out.items c.loop-region.out.items (uses_of v c.args.root.now) c.in_ok-push_own_uses.ensures all
    (ap (λ (xs : List TreeRegion). own ++ todo 0 xs) c.deref-region-items.ensures.value ∙ ap (uses_of v) c.root.view_is)

pub push_region_uses-loop-op-preserved : goal.push_region_uses-loop-op-preserved
push_region_uses-loop-op-preserved t c =
    let v = c.args.value.now in
    let xs = c.deref-op-items.result.now in
    let todo = λ (n : ℕ) (xs : List Op). ops_uses v (ops_of xs) in
    made_next todo xs c.loop-op.op-index c.op-item.result (uses_of v c.op-item.result) c.loop-op.out.items c.push_uses.new.out.items (c.args.out.now.items ++ todo 0 xs)
    c.loop-op-test.true c.op-item.is c.in_ok-push_uses.ensures refl c.loop-op.invariant

pub push_region_uses-returns-after-loop-op : goal.push_region_uses-returns-after-loop-op
push_region_uses-returns-after-loop-op t c =
    let v = c.args.value.now in
    let xs = c.deref-op-items.result.now in
    let todo = λ (n : ℕ) (xs : List Op). ops_uses v (ops_of xs) in
    made_all todo xs c.loop-op.op-index c.loop-op.out.items (c.args.out.now.items ++ todo 0 xs) refl c.loop-op-test.false c.loop-op.invariant
    ∙ ap (λ z. c.args.out.now.items ++ z) (ap (todo 0) c.deref-op-items.ensures.value ∙ ap (λ r. region_uses v (region_view r)) (sym c.in-Block.is))
