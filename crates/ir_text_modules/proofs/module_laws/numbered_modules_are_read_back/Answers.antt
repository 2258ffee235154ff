use Rattle.ir_text_modules.proofs.Modules.{numbered_again}
use Rattle.ir_text_modules.proofs.module_laws.numbered_modules_are_read_back.Goals as goal

pub returns : goal.returns
returns c = numbered_again
