use Rattle.user_patterns_apply.proofs.Additions.{from_item}
use Rattle.user_patterns_apply.proofs.Planned.{numeric_more, one_not_numeric, types_left}
use Rattle.user_patterns_apply.proofs.typing.all_numeric.Goals as goal

pub returns-then-not-is_numeric : goal.returns-then-not-is_numeric
returns-then-not-is_numeric c =
    let split = from_item c.types.rest.now c.first-item.result _ c.in-len1-up.len_at_least c.first-item.is in
    one_not_numeric c.args.ctx.now c.types.rest.now c.first-item.result _ split c.is_numeric.result c.is_numeric.ensures c.if-not-is_numeric.true _ c.types.invariant.left

pub types-preserved : goal.types-preserved
types-preserved c =
    let split = from_item c.types.rest.now c.first-item.result _ c.in-len1-up.len_at_least c.first-item.is in record {
      of = types_left c.args.ctx.now c.types.rest.now c.first-item.result _ split c.types.invariant.of;
      left = numeric_more c.args.ctx.now c.types.rest.now c.first-item.result _ split c.is_numeric.result c.is_numeric.ensures c.if-not-is_numeric.false _ c.types.invariant.left;
    }
