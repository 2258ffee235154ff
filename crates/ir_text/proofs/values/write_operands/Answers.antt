use Rattle.std.proofs.Common.{append_assoc}
use Rattle.ir_text.proofs.values.write_operands.Goals as goal

pub returns : goal.returns
returns c = λ d. rw (c.in_ok-write_short-2.ensures, c.in_ok-write_values.ensures d, c.in_ok-write_short.ensures) (simp append_assoc)
