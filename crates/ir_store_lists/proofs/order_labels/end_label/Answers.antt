use Rattle.std.proofs.Common.{arith}
use Rattle.ir_store_lists.proofs.Kept.{ended}
use Rattle.ir_store_lists.proofs.order_labels.end_label.Goals as goal

pub overflow_add-result-2 : goal.overflow_add-result-2
overflow_add-result-2 c =
    let w = ended c.args.chains.now c.args.labels.now c.relabel_all.new.labels c.args.head c.relabel_all.result c.laws.ensures c.relabel_all.ensures.labels c.relabel_all.ensures.last c.requires.rising in
    omega (arith, w.fits)

pub returns-clause-rising : goal.returns-clause-rising
returns-clause-rising c =
    let w = ended c.args.chains.now c.args.labels.now c.relabel_all.new.labels c.args.head c.relabel_all.result c.laws.ensures c.relabel_all.ensures.labels c.relabel_all.ensures.last c.requires.rising in
    w.rising

pub returns-clause-above : goal.returns-clause-above
returns-clause-above c =
    let w = ended c.args.chains.now c.args.labels.now c.relabel_all.new.labels c.args.head c.relabel_all.result c.laws.ensures c.relabel_all.ensures.labels c.relabel_all.ensures.last c.requires.rising in
    omega (arith, w.above)
