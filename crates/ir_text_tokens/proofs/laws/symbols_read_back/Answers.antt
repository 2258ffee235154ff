use Rattle.ir_text_tokens.proofs.Printed.{symbol_token, quoted_token}
use Rattle.ir_text_tokens.proofs.laws.symbols_read_back.Goals as goal

pub returns : goal.returns
returns c = record { bare = symbol_token; quoted = quoted_token }
