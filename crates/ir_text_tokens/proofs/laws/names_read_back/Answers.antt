use Rattle.ir_text_tokens.proofs.Printed.{value_token, label_token, hash_token, decimal_name}
use Rattle.ir_text_tokens.proofs.laws.names_read_back.Goals as goal

pub returns : goal.returns
returns c = record { value = value_token; label = label_token; hash = hash_token; decimal = decimal_name }
