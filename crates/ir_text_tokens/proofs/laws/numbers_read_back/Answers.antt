use Rattle.ir_text_tokens.proofs.Decimals.{integer_again}
use Rattle.ir_text_tokens.proofs.Printed.{decimal_token, minus_token}
use Rattle.ir_text_tokens.proofs.laws.numbers_read_back.Goals as goal

pub returns : goal.returns
returns c = record { token = decimal_token; minus = minus_token; value = integer_again }
