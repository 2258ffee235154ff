use Rattle.ir_text_tokens.proofs.Blanks.{begun}
use Rattle.ir_text_tokens.proofs.lexer.is_begun.Goals as goal

pub returns-then-byte-gt32 : goal.returns-then-byte-gt32
returns-then-byte-gt32 c other = begun c.args.bytes.now c.in-len1-up.len_at_least c.if-byte-gt32.true other
