use Rattle.ir_text_tokens.proofs.Printed.{bare_key, string_key}
use Rattle.ir_text_tokens.proofs.laws.keys_read_back.Goals as goal

pub returns : goal.returns
returns c = record { bare = bare_key; string = string_key }
