use Rattle.ir_text_tokens.proofs.Wholes.{next_whole}
use Rattle.ir_text_tokens.proofs.laws.identifiers_are_whole.Goals as goal

pub returns : goal.returns
returns c = next_whole
