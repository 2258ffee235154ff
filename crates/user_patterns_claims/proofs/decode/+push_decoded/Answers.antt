use Rattle.std.proofs.Common.{arith}
use Rattle.user_patterns_claims.proofs.Decoded.{widths_pushed}
use Rattle.user_patterns_claims.proofs.decode.+push_decoded.Goals as goal

pub returns : goal.returns
returns t c =
    widths_pushed c.args.value_types.now c.args.types.now c.args.word.now c.args.v c.args.left c.in-Some.width _ _ _ _ (omega arith) c.in-Some.ensures c.in_ok-push.ensures.items
    c.push_decoded.ensures
