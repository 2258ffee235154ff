use Rattle.std.proofs.Common.{rules, arith, ◌≡◌, ◌+◌, refl, sym, ap, subst, map, drop}
use Rattle.ir_store_reads.specs.trees.Tree.{head, regions, regions_of, ops_of, op_size, regions_size, region_size, ops_size}
use Rattle.ir_store_reads.specs.trees.Ids.{regions_ids, region_ids}
use Rattle.ir_store_reads.specs.trees.View.{region_view}
use Rattle.ir_store.specs.Loads.{Adds, end_of, put_region, put_regions, MayRegions, AreBelow, RegionsLeft, OpsLeft}
use Rattle.ir_store.proofs.Loaded.{may_emptied}
use Rattle.ir_store.proofs.Loading.{op_no_more, region_no_more, region_step, region_asks, op_step, op_asks, next_at, ops_start, inside_may, inside_below, inside_held, whole_adds, head_below}
use Rattle.ir_store_reads.proofs.Items.{on_ok}
use Rattle.ir_store.proofs.load.+load.Goals as goal

pub load_op-load_head-requires-clause-may : goal.load_op-load_head-requires-clause-may
load_op-load_head-requires-clause-may t c = may_emptied (end_of c.args.owner c.args.region) c.args.op.now c.args.store.now.module_of.tree c.requires.may

pub load_op-load_head-requires-clause-below : goal.load_op-load_head-requires-clause-below
load_op-load_head-requires-clause-below t c = head_below c.args.store.now.module_of.next c.args.op.now c.requires.below

pub load_op-load_regions-requires : goal.load_op-load_regions-requires
load_op-load_regions-requires t c =
    let o = c.args.op.now in
    let s = c.args.store.now in
    let u = c.load_head.new.store in
    let a = c.in_ok-load_head.ensures in
    let id = ap (λ z. (head z).id) c.op.view_is in
    let rs = ap regions c.op.view_is in (
      omega (arith, c.decreases, ap op_size c.op.view_is),
      (
        subst (λ z. MayRegions z 0 (regions_of (map region_view c.op.inside.regions.items)) u.module_of.tree) (sym id)
            (subst (λ z. MayRegions (head o).id 0 z u.module_of.tree) (sym rs) (inside_may c.args.owner c.args.region o s u c.requires.may c.requires.held c.requires.below a)),
        (
          inside_held c.args.owner c.args.region o s u c.requires.may c.requires.held c.requires.below a,
          subst (λ z. AreBelow u.module_of.next (regions_ids z)) (sym rs) (inside_below c.args.owner c.args.region o s u c.requires.may c.requires.held c.requires.below a),
        ),
      ),
    )

pub load_op-returns : goal.load_op-returns
load_op-returns t c =
    let o = c.args.op.now in
    let s = c.args.store.now in
    let u = c.load_head.new.store in
    let a = c.in_ok-load_head.ensures in
    on_ok c.load_regions.result
    (λ b. whole_adds c.args.owner c.args.region o s u c.requires.may c.requires.held c.requires.below a c.load_regions.new.store
    (subst (λ z. Adds (put_regions z 0 (regions o) u.module_of.tree) (regions_ids (regions o)) u c.load_regions.new.store) (ap (λ z. (head z).id) c.op.view_is)
    (subst (λ z. Adds (put_regions c.op.inside.id 0 z u.module_of.tree) (regions_ids z) u c.load_regions.new.store) (ap regions c.op.view_is) b)))
    c.load_regions.ensures

pub load_region-loop-op-init : goal.load_region-loop-op-init
load_region-loop-op-init t c =
    let g = region_view c.args.region.now in
    let s = c.args.store.now in
    subst (λ z. OpsLeft c.args.owner c.args.number (ops_of z) (put_region c.args.owner c.args.number g s.module_of.tree) (region_ids g) s s) (sym c.deref-op-items.ensures.value)
    (ops_start c.args.owner c.args.number g c.in-Block.args.items (ops_of c.in-Block.ops.items) s (ap region_view c.in-Block.is) c.requires.may c.requires.held c.requires.below)

pub load_region-load_op-requires : goal.load_region-load_op-requires
load_region-load_op-requires t c =
    let g = region_view c.args.region.now in
    let s = c.args.store.now in
    let xs = c.deref-op-items.result.now in
    let n = c.loop-op.op-index in
    let x = c.op-item.result in
    let l = subst (λ z. OpsLeft c.args.owner c.args.number (ops_of z) (put_region c.args.owner c.args.number g s.module_of.tree) (region_ids g) s c.loop-op.store) (next_at xs xs refl n x c.loop-op-test.true c.op-item.is) c.loop-op.invariant in
    (omega (arith, c.decreases, op_no_more xs n x c.loop-op-test.true c.op-item.is, ap (λ z. region_size (region_view z)) c.in-Block.is, ap (λ z. ops_size (ops_of z)) c.deref-op-items.ensures.value), (l.may.0, (l.held, op_asks c.args.owner c.args.number x (ops_of (drop (n + 1) xs)) (put_region c.args.owner c.args.number g s.module_of.tree) (region_ids g) s c.loop-op.store l)))

pub load_region-loop-op-preserved : goal.load_region-loop-op-preserved
load_region-loop-op-preserved t c =
    let g = region_view c.args.region.now in
    let s = c.args.store.now in
    let xs = c.deref-op-items.result.now in
    let n = c.loop-op.op-index in
    let x = c.op-item.result in
    let l = subst (λ z. OpsLeft c.args.owner c.args.number (ops_of z) (put_region c.args.owner c.args.number g s.module_of.tree) (region_ids g) s c.loop-op.store) (next_at xs xs refl n x c.loop-op-test.true c.op-item.is) c.loop-op.invariant in
    op_step c.args.owner c.args.number x (ops_of (drop (n + 1) xs)) (put_region c.args.owner c.args.number g s.module_of.tree) (region_ids g) s c.loop-op.store c.load_op.new.store l c.in_ok-load_op-in-Block.ensures

pub load_regions-load_region-requires : goal.load_regions-load_region-requires
load_regions-load_region-requires t c =
    let s = c.args.store.now in
    let all = regions_of (map region_view c.args.regions.now.items) in
    let xs = c.args.regions.now.items in
    let n = c.loop-region.region-index in
    let x = c.region-item.result in
    let whole = put_regions c.args.owner 0 all s.module_of.tree in
    let l = subst (λ z. RegionsLeft c.args.owner c.loop-region.number (regions_of (map region_view z)) whole (regions_ids all) s c.loop-region.store) (next_at c.deref-region-items.result.now xs c.deref-region-items.ensures.value n x c.loop-region-test.true c.region-item.is) c.loop-region.invariant in
    (omega (arith, c.decreases, region_no_more c.deref-region-items.result.now n x c.loop-region-test.true c.region-item.is, ap (λ z. regions_size (regions_of (map region_view z))) c.deref-region-items.ensures.value), (l.may.0, (l.held, region_asks c.args.owner c.loop-region.number (region_view x) (regions_of (map region_view (drop (n + 1) xs))) whole (regions_ids all) s c.loop-region.store l)))

pub load_regions-loop-region-preserved : goal.load_regions-loop-region-preserved
load_regions-loop-region-preserved t c =
    let s = c.args.store.now in
    let all = regions_of (map region_view c.args.regions.now.items) in
    let xs = c.args.regions.now.items in
    let n = c.loop-region.region-index in
    let x = c.region-item.result in
    let whole = put_regions c.args.owner 0 all s.module_of.tree in
    let l = subst (λ z. RegionsLeft c.args.owner c.loop-region.number (regions_of (map region_view z)) whole (regions_ids all) s c.loop-region.store) (next_at c.deref-region-items.result.now xs c.deref-region-items.ensures.value n x c.loop-region-test.true c.region-item.is) c.loop-region.invariant in
    let more = region_step c.args.owner c.loop-region.number (region_view x) (regions_of (map region_view (drop (n + 1) xs))) whole (regions_ids all) s c.loop-region.store c.load_region.new.store l c.in_ok-load_region.ensures in
    let e : c.in-Some.number ≡ c.loop-region.number + 1 = search rules in
    subst (λ z. RegionsLeft c.args.owner z (regions_of (map region_view (drop (n + 1) xs))) whole (regions_ids all) s c.load_region.new.store) (sym e) more
