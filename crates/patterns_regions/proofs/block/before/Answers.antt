use Rattle.std.proofs.Common.{sym, ap, subst, [], ◌∷◌, length, length-append, arith}
use Rattle.patterns_regions.proofs.Walking.{Walked, walk_starts, walk_goes, walk_ends, walk_inside}
use Rattle.patterns_regions.proofs.block.before.Goals as goal

pub ops-init : goal.ops-init
ops-init c =
    let t = c.args.world.now.store.module_of.tree in
    subst (Walked t c.args.op c.args.region c.in-Some.first) (sym c.new-ops.ensures.items) (walk_starts t c.args.op c.args.region c.in-Some.first c.in-Some.ensures)

pub ops-smaller : goal.ops-smaller
ops-smaller c =
    let t = c.args.world.now.store.module_of.tree in
    let a = walk_inside t c.args.op c.args.region c.ops.at c.ops.ops.items c.ops.invariant in
    let b = ap length c.in_ok-push.ensures.items in
    let d = length-append c.ops.ops.items (c.ops.at ∷ []) in
    omega (arith, a, b, d)

pub ops-preserved : goal.ops-preserved
ops-preserved c =
    let t = c.args.world.now.store.module_of.tree in
    subst (Walked t c.args.op c.args.region c.in-Some-next.next) (sym c.in_ok-push.ensures.items)
    (walk_goes t c.args.world.now.wellformed.distinct c.args.op c.args.region c.ops.at c.in-Some-next.next c.ops.ops.items c.ops.invariant c.in-Some-next.ensures)

pub returns : goal.returns
returns c = let t = c.args.world.now.store.module_of.tree in walk_ends t c.args.world.now.wellformed.distinct c.args.op c.args.region c.ops.at c.ops.ops.items c.ops.invariant c.in_default-next.ensures
