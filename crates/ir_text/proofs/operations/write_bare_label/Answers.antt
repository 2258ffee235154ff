use Rattle.std.proofs.Common.{sym}
use Rattle.ir_text.specs.View.{printed_in}
use Rattle.ir_text.proofs.Wholes.{not_bare}
use Rattle.ir_text.proofs.operations.write_bare_label.Goals as goal

pub returns-in-len1-up : goal.returns-in-len1-up
returns-in-len1-up c = λ d. sym (not_bare d c.args.margin.now c.args.ops.now (printed_in d c.args.out.now) c.in-len1-up.len_at_least)
