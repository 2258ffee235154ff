use Rattle.std.proofs.Common.{◌+◌, arith, take}
use Rattle.ir_store_lists.specs.Lists.{list_at, home_at}
use Rattle.ir_store_lists.specs.Labels.{from}
use Rattle.ir_store_lists.proofs.Spreads.{end_low}
use Rattle.ir_store_lists.proofs.Kept.{widened}
use Rattle.ir_store_lists.proofs.Parted.{parted}
use Rattle.ir_store_lists.proofs.order_labels.label_for.Goals as goal

pub returns-in-Some-clause-rising : goal.returns-in-Some-clause-rising
returns-in-Some-clause-rising c =
    let w = parted c.args.chains.now c.args.labels.now c.relabel-last.new.labels c.args.node c.low_label-low.result c.in-Some.headroom.count c.in-Some.headroom.gap c.laws.ensures c.requires.node c.requires.rising c.low_label-low.ensures c.in-Some.ensures c.relabel-last.ensures.labels in
    w.rising

pub returns-in-Some-clause-low : goal.returns-in-Some-clause-low
returns-in-Some-clause-low c =
    let w = parted c.args.chains.now c.args.labels.now c.relabel-last.new.labels c.args.node c.low_label-low.result c.in-Some.headroom.count c.in-Some.headroom.gap c.laws.ensures c.requires.node c.requires.rising c.low_label-low.ensures c.in-Some.ensures c.relabel-last.ensures.labels in
    w.low

pub returns-in-Some-clause-high : goal.returns-in-Some-clause-high
returns-in-Some-clause-high c =
    let w = parted c.args.chains.now c.args.labels.now c.relabel-last.new.labels c.args.node c.low_label-low.result c.in-Some.headroom.count c.in-Some.headroom.gap c.laws.ensures c.requires.node c.requires.rising c.low_label-low.ensures c.in-Some.ensures c.relabel-last.ensures.labels in
    w.high

pub overflow_sub-result : goal.overflow_sub-result
overflow_sub-result c =
    let w = widened c.args.chains.now c.args.labels.now c.relabel_all-last.new.labels c.args.node c.in-Some-head_of.head c.laws.ensures c.requires.node c.in-Some-head_of.ensures.0 c.relabel_all-last.ensures.labels c.requires.rising in
    omega (arith, w.gap)

pub returns-clause-rising : goal.returns-clause-rising
returns-clause-rising c =
    let w = widened c.args.chains.now c.args.labels.now c.relabel_all-last.new.labels c.args.node c.in-Some-head_of.head c.laws.ensures c.requires.node c.in-Some-head_of.ensures.0 c.relabel_all-last.ensures.labels c.requires.rising in
    w.rising

pub returns-clause-low : goal.returns-clause-low
returns-clause-low c =
    let w = widened c.args.chains.now c.args.labels.now c.relabel_all-last.new.labels c.args.node c.in-Some-head_of.head c.laws.ensures c.requires.node c.in-Some-head_of.ensures.0 c.relabel_all-last.ensures.labels c.requires.rising in
    omega (arith, w.gap)

pub returns-clause-high : goal.returns-clause-high
returns-clause-high c =
    let w = widened c.args.chains.now c.args.labels.now c.relabel_all-last.new.labels c.args.node c.in-Some-head_of.head c.laws.ensures c.requires.node c.in-Some-head_of.ensures.0 c.relabel_all-last.ensures.labels c.requires.rising in
    omega (arith, w.gap)

pub overflow_add-label : goal.overflow_add-label
overflow_add-label c =
    let low = c.low_label-low.result in
    let gap = c.in-Some.headroom.gap in
    let up = end_low gap (low + gap) (take c.in-Some.headroom.count (from c.args.node (list_at c.args.chains.now.lists (home_at c.args.chains.now.homes c.args.node)))) in
    omega (arith, up, c.in-Some.ensures.fits)
