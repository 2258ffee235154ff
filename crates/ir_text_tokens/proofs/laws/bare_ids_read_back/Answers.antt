use Rattle.ir_text_tokens.proofs.Printed.{bare_token}
use Rattle.ir_text_tokens.proofs.laws.bare_ids_read_back.Goals as goal

pub returns : goal.returns
returns c = bare_token
