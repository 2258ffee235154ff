use Rattle.std.proofs.Common.{◌≡◌, ◌∙◌, ap, sym, subst, cond, map, ◌+◌, List, drop, Some, None, option_map}
use Rattle.ir_tree.specs.Tree.{Op, regions_of, ops_of}
use Rattle.ir_tree.specs.Ids.{find, regions_find, region_find, ops_find}
use Rattle.ir_tree.specs.View.{op_view, region_view}
use Rattle.ir_tree.specs.declared.tree.TreeRegion.{TreeRegion}
use Rattle.ir_tree.proofs.Firsts.{first_of_none, first_of_some}
use Rattle.ir_tree.proofs.Steps.{left_next, left_none, left_stop}
use Rattle.ir_tree.proofs.find.+find.Goals as goal

pub find-loop-region-preserved : goal.find-loop-region-preserved
find-loop-region-preserved t c =
    let xs = c.deref-region-items.result.now in
    let n = c.loop-region.region-index in
    let left = λ (xs : List TreeRegion). regions_find c.args.id (regions_of (map region_view xs)) in
    left_next left left xs n c.region-item.result (left xs) c.loop-region-test.true c.region-item.is
    (first_of_none c.find_in_region-found.result (λ o. o.now) (region_find c.args.id (region_view c.region-item.result)) (left (drop (n + 1) xs)) c.find_in_region-found.ensures c.if-is_some.ensures) c.loop-region.invariant

pub find_in_region-loop-op-preserved : goal.find_in_region-loop-op-preserved
find_in_region-loop-op-preserved t c =
    let xs = c.deref-op-items.result.now in
    let n = c.loop-op.op-index in
    let left = λ (xs : List Op). ops_find c.args.id (ops_of xs) in
    left_next left left xs n c.op-item.result (left xs) c.loop-op-test.true c.op-item.is
    (first_of_none c.find-found.result (λ o. o.now) (find c.args.id c.op-item.result) (left (drop (n + 1) xs)) c.find-found.ensures c.if-is_some.ensures) c.loop-op.invariant

pub find-returns-then-is_some : goal.find-returns-then-is_some
find-returns-then-is_some t c =
    let xs = c.deref-region-items.result.now in
    let n = c.loop-region.region-index in
    let left = λ (xs : List TreeRegion). regions_find c.args.id (regions_of (map region_view xs)) in
    let found = option_map (λ o. o.now) c.find_in_region-found.result in
    let first = first_of_some c.find_in_region-found.result (λ o. o.now) (region_find c.args.id (region_view c.region-item.result)) (left (drop (n + 1) xs)) c.find_in_region-found.ensures c.if-is_some.ensures in
    let all = left_stop left xs n c.region-item.result (left xs) found c.loop-region-test.true c.region-item.is first c.loop-region.invariant in
    let inside = ap left (sym c.deref-region-items.ensures.value) ∙ all in
    subst (λ (o : Op). found ≡ find c.args.id o) c.root.view_is
    (sym (ap (λ b. cond b (Some (op_view c.root.inside)) (left c.root.inside.regions.items)) (sym c.if-eq.ensures) ∙ inside))

pub find-returns : goal.find-returns
find-returns t c =
    let xs = c.deref-region-items.result.now in
    let left = λ (xs : List TreeRegion). regions_find c.args.id (regions_of (map region_view xs)) in
    let all = left_none left xs c.loop-region.region-index (left xs) c.loop-region-test.false c.loop-region.invariant in
    let inside = ap left (sym c.deref-region-items.ensures.value) ∙ all in
    subst (λ (o : Op). None ≡ find c.args.id o) c.root.view_is
    (sym (ap (λ b. cond b (Some (op_view c.root.inside)) (left c.root.inside.regions.items)) (sym c.if-eq.ensures) ∙ inside))
