use Rattle.ir_text_modules.proofs.AsItComes.{module_comes_back}
use Rattle.ir_text_modules.proofs.module_laws.modules_come_back.Goals as goal

pub returns : goal.returns
returns c = module_comes_back
