use Rattle.std.proofs.Common.{◌≡◌, ◌∙◌, ap, sym, refl, subst, map, IfOk, ◌∷◌, [], ◌+◌, ℕ, List, drop}
use Rattle.ir_tree.specs.Tree.{Op, Region, op, head, block, regions_of, ops_of, region_list, op_list}
use Rattle.ir_tree.specs.Edited.{edited, regions_edited, region_edited, ops_edited}
use Rattle.ir_tree.specs.View.{head_view, region_view}
use Rattle.ir_tree.specs.declared.tree.TreeRegion.{TreeRegion}
use Rattle.ir_tree.proofs.Lists.{regions_from, ops_from}
use Rattle.ir_tree.proofs.Steps.{made_next, made_all, map_more}
use Rattle.ir_tree.proofs.edits.+edit.Goals as goal

pub edited_regions-loop-number-preserved : goal.edited_regions-loop-number-preserved
edited_regions-loop-number-preserved g t c =
    let f = g.H.HeadEdit.gives c.args.heads.now in
    let l = g.L.ListEdit.gives c.args.lists.now in
    let xs = c.deref-region-items.result.now in
    let n = c.loop-number.number in
    let y = c.in_ok-edited_region.field-0 in
    let todo = λ (n : ℕ) (xs : List TreeRegion). region_list (regions_edited f l c.args.owner n (regions_of (map region_view xs))) in
    let made = map_more region_view c.loop-number.copies.items c.push.new.self.items y c.in_ok-push.ensures.items in
    let next = ap (λ r. r ∷ todo (n + 1) (drop (n + 1) xs)) c.in_ok-edited_region.ensures in
    made_next todo xs n c.region-item.result (region_view y ∷ []) (map region_view c.loop-number.copies.items) (map region_view c.push.new.self.items) (todo 0 xs) c.loop-number-test.true c.region-item.is made next c.loop-number.invariant

pub edited_regions-returns : goal.edited_regions-returns
edited_regions-returns g t c =
    let f = g.H.HeadEdit.gives c.args.heads.now in
    let l = g.L.ListEdit.gives c.args.lists.now in
    let xs = c.deref-region-items.result.now in
    let todo = λ (n : ℕ) (xs : List TreeRegion). region_list (regions_edited f l c.args.owner n (regions_of (map region_view xs))) in
    let all = made_all todo xs c.loop-number.number (map region_view c.loop-number.copies.items) (todo 0 xs) refl c.loop-number-test.false c.loop-number.invariant in
    subst (λ (xs : List TreeRegion). regions_of (map region_view c.loop-number.copies.items) ≡ regions_edited f l c.args.owner 0 (regions_of (map region_view xs)))
    c.deref-region-items.ensures.value
    (regions_from (map region_view c.loop-number.copies.items) (regions_edited f l c.args.owner 0 (regions_of (map region_view xs))) all)

pub edited_region-loop-op-preserved : goal.edited_region-loop-op-preserved
edited_region-loop-op-preserved g t c =
    let f = g.H.HeadEdit.gives c.args.heads.now in
    let l = g.L.ListEdit.gives c.args.lists.now in
    let xs = c.deref-op-items.result.now in
    let n = c.loop-op.op-index in
    let y = c.in_ok-edited-in-Block.field-0 in
    let todo = λ (n : ℕ) (xs : List Op). op_list (ops_edited f l (ops_of xs)) in
    let next = ap (λ o. o ∷ todo (n + 1) (drop (n + 1) xs)) c.in_ok-edited-in-Block.ensures in
    made_next todo xs n c.op-item.result (y ∷ []) c.loop-op.copies.items c.push.new.self.items (todo 0 xs) c.loop-op-test.true c.op-item.is c.in_ok-push-in-Block.ensures.items next c.loop-op.invariant

pub edited_region-returns-after-loop-op : goal.edited_region-returns-after-loop-op
edited_region-returns-after-loop-op g t c =
    let f = g.H.HeadEdit.gives c.args.heads.now in
    let l = g.L.ListEdit.gives c.args.lists.now in
    let xs = c.deref-op-items.result.now in
    let todo = λ (n : ℕ) (xs : List Op). op_list (ops_edited f l (ops_of xs)) in
    let all = made_all todo xs c.loop-op.op-index c.loop-op.copies.items (todo 0 xs) refl c.loop-op-test.false c.loop-op.invariant in
    let made : ops_of c.loop-op.copies.items ≡ ops_edited f l (ops_of c.in-Block.ops.items) =
    subst (λ (xs : List Op). ops_of c.loop-op.copies.items ≡ ops_edited f l (ops_of xs)) c.deref-op-items.ensures.value (ops_from c.loop-op.copies.items (ops_edited f l (ops_of xs)) all) in
    subst (λ (x : Region). IfOk c.block_of.result (λ r. region_view r ≡ x))
    (ap (λ os. block c.in-Block.args.items (l c.args.owner c.args.number os)) made ∙ ap (λ r. region_edited f l c.args.owner c.args.number (region_view r)) (sym c.in-Block.is))
    c.block_of.ensures

pub edited-returns : goal.edited-returns
edited-returns g t c =
    let f = g.H.HeadEdit.gives c.args.heads.now in
    let l = g.L.ListEdit.gives c.args.lists.now in
    let regions = regions_of (map region_view c.in_ok-regions.regions.items) in
    let own = ap (λ (o : Op). op (f (head o)) regions) (sym c.root.view_is) in
    let inside = ap (op (f (head_view c.root.inside))) c.in_ok-regions.ensures in
    subst (λ (x : Op). IfOk c.op_of.result (λ o. o ≡ x)) (own ∙ inside ∙ ap (edited f l) c.root.view_is) c.op_of.ensures
