use Rattle.std.proofs.Common.{rules}
use Rattle.ir_text_types.proofs.Marked.{after_is}
use Rattle.ir_text_types.proofs.steps.after_any.Goals as goal

pub returns-else-code : goal.returns-else-code
returns-else-code c = rw (after_is c.args.mark c.args.bytes.now, ← c.mark.ensures) (search rules)
