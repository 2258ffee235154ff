use Rattle.ir_text_tokens.proofs.Precedings.{next_preceding}
use Rattle.ir_text_tokens.proofs.laws.tokens_stand_at_the_start.Goals as goal

pub returns : goal.returns
returns c = next_preceding
