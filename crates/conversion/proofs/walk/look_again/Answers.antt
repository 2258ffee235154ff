use Rattle.std.proofs.Common.{nat_eq}
use Rattle.std.specs.HashMap.{get}
use Rattle.conversion.proofs.Waiting.{adding_more}
use Rattle.conversion.proofs.walk.look_again.Goals as goal

pub ops-preserved : goal.ops-preserved
ops-preserved c = adding_more c.args.ops.now c.ops.rest.now c.op-item.result (get nat_eq c.args.places.now) c.args.walk.now.passed c.args.walk.now.again.keys c.ops.walk.passed c.ops.walk.again.keys c.add_op.new.walk.passed c.add_op.new.walk.again.keys c.in-len1-up.len_at_least c.op-item.is c.ops.invariant c.in_ok-add_op.ensures
