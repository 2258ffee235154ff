use Rattle.patterns.proofs.Bounds.{too_full, too_long, has_headroom}
use Rattle.patterns.proofs.limits.limit_reason.Goals as goal

pub returns-then-saturating_add-gt-MOST_OPS : goal.returns-then-saturating_add-gt-MOST_OPS
returns-then-saturating_add-gt-MOST_OPS c = too_full c.args.world.now c.args.more c.op_count.result c.saturating_add.result c.op_count.ensures c.saturating_add.ensures c.if-saturating_add-gt-MOST_OPS.true

pub returns-then-saturating_add-gt4294967295 : goal.returns-then-saturating_add-gt4294967295
returns-then-saturating_add-gt4294967295 c =
    too_long c.args.world.now c.args.more c.op_count.result c.saturating_add.result c.op_count.ensures c.saturating_add.ensures c.if-saturating_add-gt-MOST_OPS.false
    c.next_id.result c.from.result c.saturating_add-2.result c.next_id.ensures c.from.ensures c.saturating_add-2.ensures c.if-saturating_add-gt4294967295.true

pub returns : goal.returns
returns c =
    has_headroom c.args.world.now c.args.more c.op_count.result c.saturating_add.result c.op_count.ensures c.saturating_add.ensures c.if-saturating_add-gt-MOST_OPS.false
    c.next_id.result c.from.result c.saturating_add-2.result c.next_id.ensures c.from.ensures c.saturating_add-2.ensures c.if-saturating_add-gt4294967295.false
