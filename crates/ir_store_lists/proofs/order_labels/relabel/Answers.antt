use Rattle.std.proofs.Common.{arith, take}
use Rattle.ir_store_lists.specs.Lists.{home_at, list_at}
use Rattle.ir_store_lists.specs.Labels.{from}
use Rattle.ir_store_lists.proofs.LabelWalks.{walk_start, walk_step}
use Rattle.ir_store_lists.proofs.order_labels.relabel.Goals as goal

pub nodes-init : goal.nodes-init
nodes-init c = walk_start c.args.chains.now c.args.node c.args.headroom.now.gap c.args.headroom.now.count c.args.low c.args.labels.now c.laws.ensures c.requires.node

pub overflow_add-label : goal.overflow_add-label
overflow_add-label c =
    let s = walk_step c.args.chains.now (home_at c.args.chains.now.homes c.args.node) c.args.headroom.now.gap
    (take c.args.headroom.now.count (from c.args.node (list_at c.args.chains.now.lists (home_at c.args.chains.now.homes c.args.node)))) c.args.low c.args.labels.now
    c.nodes.next c.in-Some.at c.nodes.left c.nodes.label c.nodes.labels c.in-Some.is c.if-left-eq0.false c.laws.ensures c.requires.rising c.nodes.invariant in
    omega (arith, s.fits, c.requires.fits)

pub offset_bounds-labels-at : goal.offset_bounds-labels-at
offset_bounds-labels-at c =
    let s = walk_step c.args.chains.now (home_at c.args.chains.now.homes c.args.node) c.args.headroom.now.gap
    (take c.args.headroom.now.count (from c.args.node (list_at c.args.chains.now.lists (home_at c.args.chains.now.homes c.args.node)))) c.args.low c.args.labels.now
    c.nodes.next c.in-Some.at c.nodes.left c.nodes.label c.nodes.labels c.in-Some.is c.if-left-eq0.false c.laws.ensures c.requires.rising c.nodes.invariant in
    omega (arith, s.item.inside, c.requires.rising.few)

pub bounds-labels-at : goal.bounds-labels-at
bounds-labels-at c =
    let s = walk_step c.args.chains.now (home_at c.args.chains.now.homes c.args.node) c.args.headroom.now.gap
    (take c.args.headroom.now.count (from c.args.node (list_at c.args.chains.now.lists (home_at c.args.chains.now.homes c.args.node)))) c.args.low c.args.labels.now
    c.nodes.next c.in-Some.at c.nodes.left c.nodes.label c.nodes.labels c.in-Some.is c.if-left-eq0.false c.laws.ensures c.requires.rising c.nodes.invariant in
    s.inside

pub next-next-requires : goal.next-next-requires
next-next-requires c =
    let s = walk_step c.args.chains.now (home_at c.args.chains.now.homes c.args.node) c.args.headroom.now.gap
    (take c.args.headroom.now.count (from c.args.node (list_at c.args.chains.now.lists (home_at c.args.chains.now.homes c.args.node)))) c.args.low c.args.labels.now
    c.nodes.next c.in-Some.at c.nodes.left c.nodes.label c.nodes.labels c.in-Some.is c.if-left-eq0.false c.laws.ensures c.requires.rising c.nodes.invariant in
    s.item

pub nodes-preserved : goal.nodes-preserved
nodes-preserved c =
    let s = walk_step c.args.chains.now (home_at c.args.chains.now.homes c.args.node) c.args.headroom.now.gap
    (take c.args.headroom.now.count (from c.args.node (list_at c.args.chains.now.lists (home_at c.args.chains.now.homes c.args.node)))) c.args.low c.args.labels.now
    c.nodes.next c.in-Some.at c.nodes.left c.nodes.label c.nodes.labels c.in-Some.is c.if-left-eq0.false c.laws.ensures c.requires.rising c.nodes.invariant in
    s.next c.next-next.result c.next-next.ensures
