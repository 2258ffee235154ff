use Rattle.user_patterns_apply.proofs.Additions.{from_item}
use Rattle.user_patterns_apply.proofs.Planned.{kinds_more, types_left}
use Rattle.user_patterns_apply.proofs.typing.kinds_of.Goals as goal

pub types-preserved : goal.types-preserved
types-preserved c =
    let split = from_item c.types.rest.now c.first-item.result _ c.in-len1-up.len_at_least c.first-item.is in record {
      of = types_left c.args.ctx.now c.types.rest.now c.first-item.result _ split c.types.invariant.of;
      left = kinds_more c.args.ctx.now c.types.rest.now c.first-item.result _ split c.types.value_types.items _ c.bound_type.result c.in_ok-push.ensures.items c.bound_type.ensures _ c.types.invariant.left;
    }
