use Rattle.std.proofs.Common.{◌∙◌, sym, arith}
use Rattle.effects.specs.Effects.{own_by}
use Rattle.effects.specs.Within.{regions_of}
use Rattle.effects.proofs.Idling.{regions_start, region_stop, region_go, regions_end, list_falls, walk_start, inner_falls, walk_smaller, walk_stop, walk_on}
use Rattle.ir_event.specs.trees.Ids.{find}
use Rattle.ir_event.specs.trees.Tree.{head}
use Rattle.effects.proofs.dead_op.+idle.Goals as goal

pub is_idle-regions-init : goal.is_idle-regions-init
is_idle-regions-init t c =
    (regions_start (own_by c.args.world.now.ctx) c.args.op c.args.world.now.store.module_of.tree c.in-Some.own c.recursive.result c.in-Some.ensures.own c.recursive.ensures c.if-not-recursive.false, omega arith)

pub is_idle-is_list_idle-requires : goal.is_idle-is_list_idle-requires
is_idle-is_list_idle-requires t c =
    let less = list_falls (own_by c.args.world.now.ctx) c.args.op c.args.world.now.store.module_of.tree c.args.world.now.wellformed.distinct (λ o. own_by c.args.world.now.ctx (head o).name) c.in-Some.own c.regions.region c.in-Some.ensures.own in
    (omega (arith, c.decreases, less), tt)

pub is_idle-returns-then-not-is_list_idle : goal.is_idle-returns-then-not-is_list_idle
is_idle-returns-then-not-is_list_idle t c =
    region_stop (own_by c.args.world.now.ctx) c.args.op c.args.world.now.store.module_of.tree c.regions.region c.is_list_idle.result _ c.is_list_idle.ensures c.if-not-is_list_idle.true c.regions.invariant.0

pub is_idle-regions-preserved : goal.is_idle-regions-preserved
is_idle-regions-preserved t c =
    (region_go (own_by c.args.world.now.ctx) c.args.op c.args.world.now.store.module_of.tree c.regions.region c.is_list_idle.result _ c.is_list_idle.ensures c.if-not-is_list_idle.false c.regions.invariant.0, omega arith)

pub is_idle-returns : goal.is_idle-returns
is_idle-returns t c =
    let count = c.in-Some.ensures.regions in
    let past = c.regions-test.false in
    sym (regions_end (own_by c.args.world.now.ctx) c.regions.region (regions_of (find c.args.op c.args.world.now.store.module_of.tree)) (omega (arith, count, past))) ∙ c.regions.invariant.0

pub is_list_idle-ops-init : goal.is_list_idle-ops-init
is_list_idle-ops-init t c = walk_start (own_by c.args.world.now.ctx) c.args.world.now.store.module_of.tree c.args.world.now.wellformed.distinct c.args.op c.args.region c.first-at.result c.first-at.ensures

pub is_list_idle-is_idle-requires : goal.is_list_idle-is_idle-requires
is_list_idle-is_idle-requires t c =
    let less = inner_falls (own_by c.args.world.now.ctx) c.args.world.now.store.module_of.tree c.args.world.now.wellformed.distinct c.args.op c.args.region c.in-Some.inner c.ops.at c.in-Some.is c.ops.invariant in
    (omega (arith, c.decreases, less), tt)

pub is_list_idle-returns-then-not-is_idle : goal.is_list_idle-returns-then-not-is_idle
is_list_idle-returns-then-not-is_idle t c =
    walk_stop (own_by c.args.world.now.ctx) c.args.world.now.store.module_of.tree c.args.world.now.wellformed.distinct c.args.op c.args.region c.in-Some.inner c.ops.at c.in-Some.is c.ops.invariant c.is_idle.result c.is_idle.ensures c.if-not-is_idle.true

pub is_list_idle-ops-smaller : goal.is_list_idle-ops-smaller
is_list_idle-ops-smaller t c =
    walk_smaller (own_by c.args.world.now.ctx) c.args.world.now.store.module_of.tree c.args.world.now.wellformed.distinct c.args.op c.args.region c.in-Some.inner c.ops.at c.in-Some.is c.ops.invariant c.next-at.result c.next-at.ensures

pub is_list_idle-ops-preserved : goal.is_list_idle-ops-preserved
is_list_idle-ops-preserved t c =
    walk_on (own_by c.args.world.now.ctx) c.args.world.now.store.module_of.tree c.args.world.now.wellformed.distinct c.args.op c.args.region c.in-Some.inner c.ops.at c.in-Some.is c.ops.invariant c.is_idle.result c.next-at.result c.is_idle.ensures c.if-not-is_idle.false c.next-at.ensures
