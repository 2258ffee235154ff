use Rattle.ir_text_modules.proofs.Modules.{module_again}
use Rattle.ir_text_modules.proofs.module_laws.modules_are_read_back.Goals as goal

pub returns : goal.returns
returns c = module_again
