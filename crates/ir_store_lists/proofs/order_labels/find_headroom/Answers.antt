use Rattle.std.proofs.Common.{◌≡◌, ◌<◌, ◌≤◌, ◌+◌, ◌-◌, ◌/◌, ℕ, arith, min}
use Rattle.ir_store_lists.specs.Labels.{label_at}
use Rattle.ir_store_lists.proofs.LabelWalks.{ahead_start, ahead_step, ahead_few, headroom_found, headroom_last}
use Rattle.ir_store_lists.proofs.order_labels.find_headroom.Goals as goal

least : (m n gap : ℕ) → gap ≡ min m n → gap ≤ m
least m n gap e = omega arith

pub nodes-init : goal.nodes-init
nodes-init c = ahead_start c.args.chains.now c.args.node c.laws.ensures c.requires.node

pub offset_bounds-labels-at : goal.offset_bounds-labels-at
offset_bounds-labels-at c =
    let s = ahead_step c.args.chains.now c.args.labels.now c.args.node c.nodes.count c.nodes.next c.laws.ensures c.requires.node c.requires.rising c.nodes.invariant c.in-Some.at c.in-Some.is in
    omega (arith, s.item.inside, c.requires.rising.few)

pub bounds-labels-at : goal.bounds-labels-at
bounds-labels-at c =
    let s = ahead_step c.args.chains.now c.args.labels.now c.args.node c.nodes.count c.nodes.next c.laws.ensures c.requires.node c.requires.rising c.nodes.invariant c.in-Some.at c.in-Some.is in
    s.inside

pub overflow_sub-gap : goal.overflow_sub-gap
overflow_sub-gap c =
    let s = ahead_step c.args.chains.now c.args.labels.now c.args.node c.nodes.count c.nodes.next c.laws.ensures c.requires.node c.requires.rising c.nodes.invariant c.in-Some.at c.in-Some.is in
    omega (arith, s.above_low, c.requires.low)

pub overflow_add-gap : goal.overflow_add-gap
overflow_add-gap c =
    let s = ahead_step c.args.chains.now c.args.labels.now c.args.node c.nodes.count c.nodes.next c.laws.ensures c.requires.node c.requires.rising c.nodes.invariant c.in-Some.at c.in-Some.is in
    omega (arith, s.few)

pub returns-then-gap-count : goal.returns-then-gap-count
returns-then-gap-count c =
    let s = ahead_step c.args.chains.now c.args.labels.now c.args.node c.nodes.count c.nodes.next c.laws.ensures c.requires.node c.requires.rising c.nodes.invariant c.in-Some.at c.in-Some.is in
    let high = label_at c.args.labels.now c.in-Some.at in
    let gap = (high - c.args.low) / (c.nodes.count + 2) in
    let up : c.args.low < high = omega (arith, s.above_low, c.requires.low) in
    let fits_in : high < 18446744073709551616 = omega (arith, c.type_inv.labels c.in-Some.at) in
    let same : gap ≤ gap = omega arith in
    headroom_found c.args.chains.now c.args.labels.now c.args.node c.nodes.count c.nodes.next c.laws.ensures c.requires.node c.requires.rising c.nodes.invariant
    c.args.low c.in-Some.at gap c.in-Some.is up fits_in same c.if-gap-count.true

pub overflow_add-count : goal.overflow_add-count
overflow_add-count c =
    let s = ahead_step c.args.chains.now c.args.labels.now c.args.node c.nodes.count c.nodes.next c.laws.ensures c.requires.node c.requires.rising c.nodes.invariant c.in-Some.at c.in-Some.is in
    omega (arith, s.few)

pub next-next-requires : goal.next-next-requires
next-next-requires c =
    let s = ahead_step c.args.chains.now c.args.labels.now c.args.node c.nodes.count c.nodes.next c.laws.ensures c.requires.node c.requires.rising c.nodes.invariant c.in-Some.at c.in-Some.is in
    s.item

pub nodes-smaller : goal.nodes-smaller
nodes-smaller c =
    let s = ahead_step c.args.chains.now c.args.labels.now c.args.node c.nodes.count c.nodes.next c.laws.ensures c.requires.node c.requires.rising c.nodes.invariant c.in-Some.at c.in-Some.is in
    omega (arith, s.few)

pub nodes-preserved : goal.nodes-preserved
nodes-preserved c =
    let s = ahead_step c.args.chains.now c.args.labels.now c.args.node c.nodes.count c.nodes.next c.laws.ensures c.requires.node c.requires.rising c.nodes.invariant c.in-Some.at c.in-Some.is in
    s.next c.next-next.result c.next-next.ensures

pub overflow_add-count-2 : goal.overflow_add-count-2
overflow_add-count-2 c = omega (arith, ahead_few c.args.chains.now c.args.labels.now c.args.node c.nodes.count c.nodes.next c.laws.ensures c.requires.node c.requires.rising c.nodes.invariant)

pub returns : goal.returns
returns c =
    let gap = c.min-gap.result in
    let small : gap ≤ (18446744073709551615 - c.args.low) / (c.nodes.count + 2) = least ((18446744073709551615 - c.args.low) / (c.nodes.count + 2)) 4294967296 gap c.min-gap.ensures in
    headroom_last c.args.chains.now c.args.labels.now c.args.node c.nodes.count c.nodes.next c.laws.ensures c.requires.node c.requires.rising c.nodes.invariant
    c.args.low gap c.in_default.is (omega arith) small (omega arith)
