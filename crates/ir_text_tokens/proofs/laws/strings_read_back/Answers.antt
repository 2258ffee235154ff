use Rattle.ir_text_tokens.proofs.Escapes.{value_again}
use Rattle.ir_text_tokens.proofs.Printed.{string_token}
use Rattle.ir_text_tokens.proofs.laws.strings_read_back.Goals as goal

pub returns : goal.returns
returns c = record { token = string_token; value = value_again }
