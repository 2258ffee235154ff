use Rattle.std.proofs.Common.{arith}
use Rattle.std.proofs.lemmas.Grind.{common_steps}
use Rattle.std.proofs.lemmas.Str.{utf8_valid_len-IsUtf8}
use Rattle.ir_text_tokens.proofs.limits.check_text.Goals as goal

pub returns-in-Ok : goal.returns-in-Ok
returns-in-Ok c =
    let e = utf8_valid_len-IsUtf8 c.args.bytes.now c.in-Ok.ensures.cases.1 in
    grind (arith, common_steps, e)
