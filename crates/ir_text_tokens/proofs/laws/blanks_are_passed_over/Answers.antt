use Rattle.ir_text_tokens.proofs.Printed.{blank_passed}
use Rattle.ir_text_tokens.proofs.laws.blanks_are_passed_over.Goals as goal

pub returns : goal.returns
returns c = blank_passed
