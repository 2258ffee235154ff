use Rattle.ir_text_tokens.proofs.Printed.{mark_token}
use Rattle.ir_text_tokens.proofs.laws.marks_read_back.Goals as goal

pub returns : goal.returns
returns c = mark_token
